-- The text of a report on concrete files, and on every file of a kind. Each claim holds by computation, or by computation and the
-- law that it cites. Assumes nothing.
use mathlib.Core.Path.{◌≡◌, refl, sym, ap, ◌∙◌}
use mathlib.Core.Bool.{true}
use mathlib.Core.List.{List, [], ◌∷◌, ◌++◌, map, flatten}
use Prim.Native.Nat.{ℕ, ◌/◌, ◌%◌, ◌≤◌, ◌<◌}
use native.Mathlib.Omega.{arith}
use lib.ListN.{length, drop, replicate}
use borrow.Author.Tests.{le-ltb, eq-eqb}
use Rattle.model.specs.Policy.{policy_valid}
use Rattle.model.specs.Calls.{output_of}
use Rattle.model.proofs.Worked.{policy, zeros, computed}
use Rattle.model.proofs.Listing.{records, listing}
use Rattle.model.proofs.Listing.{lines as worked}
use Rattle.reports.specs.Text.{ascii, digits, decimal, line, lines, closing, report_text, made, text_call}
use Rattle.reports.proofs.Reports.{answers, run_whole, report_bad, report_uneven, report_whole, report_excess}

-- ---- the parts of a text

pub letters : ascii "end \n" ≡ (101 ∷ 110 ∷ 100 ∷ 32 ∷ 10 ∷ [])
unfolding ascii
letters = refl

pub numbers : map decimal (0 ∷ 9 ∷ 10 ∷ 42 ∷ 99 ∷ 100 ∷ 109 ∷ 255 ∷ 1999 ∷ 2000 ∷ [])
    ≡ map ascii ("0" ∷ "9" ∷ "10" ∷ "42" ∷ "99" ∷ "100" ∷ "109" ∷ "255" ∷ "1999" ∷ "2000" ∷ [])
unfolding decimal digits ascii
numbers = refl

pub two_lines : lines 2 (29 ∷ 4 ∷ 0 ∷ 255 ∷ []) ≡ ascii "0 29 4\n1 0 255\n"
unfolding lines line decimal digits ascii
two_lines = refl

pub last_lines : closing (ascii "end ") 10 ++ closing (ascii "refused ") 16 ≡ ascii "end 10\nrefused 16\n"
unfolding closing decimal digits ascii
last_lines = refl

-- ---- 01's listing

good : policy_valid policy ≡ true
unfolding computed
good = refl

pub listing_printed : report_text policy (flatten records)
    ≡ ascii "0 0 0\n1 19 0\n2 0 0\n3 1 0\n4 3 2\n5 29 2\n6 1 0\n7 1 0\n8 2 0\n9 28 0\n" ++ ascii "10 1 0\n11 3 1\n12 27 0\n"
    ++ ascii "13 26 0\n14 0 0\n15 0 0\n16 3 3\n17 25 0\n18 23 4\nend 19\n"
unfolding flatten output_of lines line closing decimal digits ascii
listing_printed =
    let events = flatten records in
    let same : answers policy events ≡ output_of (map (λ l. l.response) worked) =
    sym (run_whole policy events good (replicate 38 255) refl).2 ∙ ap (λ r. r.output) listing in
    report_whole policy events good refl (omega arith) ∙ rw same

-- ---- refusals, and the edges of what is taken

-- 16 comes first, whatever the events are: more than 2,000 of them, too
pub no_policy : (events : List ℕ) → report_text [] events ≡ ascii "refused 16\n"
unfolding computed closing decimal digits ascii
no_policy events = report_bad [] events refl

pub no_events : report_text policy [] ≡ ascii "end 0\n"
unfolding lines closing decimal digits ascii
no_events = report_whole policy [] good refl (omega arith)

pub broken_record : report_text policy (zeros 25) ≡ ascii "refused 30\n"
unfolding closing decimal digits ascii
broken_record = report_uneven policy (zeros 25) good refl

-- 2,000 events are taken, and a byte more is not
pub most_events_lem : (events : List ℕ) → length events ≡ 48000
    → report_text policy events ≡ lines 2000 (answers policy events) ++ ascii "end 2000\n"
unfolding closing decimal digits ascii
most_events_lem events n =
    let e : length events / 24 ≡ 2000 = omega arith in
    let r : length events % 24 ≡ 0 = omega arith in
    report_whole policy events good (eq-eqb _ _ r) (omega arith)
    ∙ ap (λ n. lines n (answers policy events) ++ closing (ascii "end ") n) e

pub excess_events : (events : List ℕ) → 48000 < length events → report_text policy events ≡ ascii "refused 30\n"
unfolding closing decimal digits ascii
excess_events events h = report_excess policy events good h

-- ---- the text in lent bytes

pub too_small : text_call policy [] (replicate 11 7) ≡ made 0 (replicate 11 7)
unfolding text_call
too_small = refl

pub text_lent : (lent : List ℕ) → 26009 ≤ length lent → text_call policy [] lent ≡ made 6 (ascii "end 0\n" ++ drop 6 lent)
unfolding text_call ascii
text_lent lent h = rw (le-ltb (length lent) 26009 h, no_events)
