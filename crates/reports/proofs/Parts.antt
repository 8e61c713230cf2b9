-- A text put part by part into lent bytes, its length, and the text as such a part: laws that docs/PORT.md names. Assumes nothing.
use mathlib.Core.Path.{◌≡◌, ap, ◌∙◌}
use mathlib.Core.List.{List, ◌++◌}
use Prim.Native.Nat.{ℕ, zero, suc, ◌+◌, ◌-◌, ◌*◌, ◌≤◌, ◌<◌}
use native.Mathlib.Nat.{zero-add, suc-add}
use native.Mathlib.Omega.{arith}
use lib.ListN.{length, get_or, take, replicate, length-append}
use lib.Seq.{sets-eq, length-sets}
use borrow.Author.Tests.{le-ltb}
use Rattle.std.proofs.lemmas.List.{take-replicate}
use Rattle.words.proofs.Stores.{sets_then}
use Rattle.reports.specs.Text.{ascii, line, lines, closing, report_text, most_events, text_size, made, text_call}
use Rattle.reports.specs.Steps.{Puts}
use Rattle.reports.proofs.Decimal.{length-decimal}

pub puts_same : {part part' before after : List ℕ} {at next : ℕ} → part ≡ part' → Puts part before at after next
    → Puts part' before at after next
puts_same e puts = rw e at puts

-- where two parts have room, the first has
pub first_room : (part part' : List ℕ) (at : ℕ) {size : ℕ} → at + length (part ++ part') ≤ size → at + length part ≤ size
first_room part part' at h = omega (arith, length-append part part')

-- two parts, one behind the other
module _ {part before after : List ℕ} {at next : ℕ} (puts : Puts part before at after next) where
  pub puts_room : (part' : List ℕ) → at + length (part ++ part') ≤ length before → next + length part' ≤ length after
  puts_room part' h = rw (puts.stored, puts.behind, length-sets) (omega (arith, length-append part part'))

  pub puts_then : {part' after' : List ℕ} {next' : ℕ} → Puts part' after next after' next'
      → Puts (part ++ part') before at after' next'
  puts_then {part'} more =
      let n = ap length puts.stored ∙ length-sets before at part in
      record {
        room = rw length-append (omega (arith, puts.behind, more.room));
        stored = more.stored ∙ rw (puts.stored, puts.behind) (sets_then before at part part');
        behind = more.behind ∙ rw (puts.behind, length-append) (omega arith);
      }

-- the first k of n zeros
pub take_zeros : {k m : ℕ} (n : ℕ) → k ≤ n → k ≡ m → take {A = ℕ} k (replicate n 0) ≡ replicate m 0
take_zeros {k} n h e = take-replicate k n 0 h ∙ ap (λ j. replicate j 0) e

-- ---- its length

-- more events have no shorter lines
lines_grow : (more n : ℕ) (answers : List ℕ) → length (lines n answers) ≤ length (lines (more + n) answers)
unfolding lines
lines_grow zero n answers = rw zero-add (omega arith)
lines_grow (suc more) n answers = rw (suc-add, length-append) (let h = lines_grow more n answers in omega arith)

-- where the lines of all events have room, the next has
pub next_line : (i count : ℕ) (answers : List ℕ) {size : ℕ} → i < count → 0 + length (lines count answers) ≤ size
    → 0 + length (lines i answers ++ line i (get_or answers (2 * i) 0) (get_or answers (2 * i + 1) 0)) ≤ size
unfolding lines
next_line i count answers h room =
    let e : count ≡ (count - suc i) + suc i = omega arith in
    let g = lines_grow (count - suc i) (suc i) answers in
    omega (arith, ap (λ n. length (lines n answers)) e)

length-line : (index number detail : ℕ) → index < 10000 → number < 1000 → detail < 1000
    → length (line index number detail) ≤ 13
unfolding line ascii
length-line index number detail i n d =
    let a = length-decimal 3 index i in
    let b = length-decimal 2 number n in
    let c = length-decimal 2 detail d in
    simp length-append (omega arith)

module _ (answers : List ℕ) (bytes : (k : ℕ) → get_or answers k 0 < 256) where
  length-lines : (n : ℕ) → n ≤ 10000 → length (lines n answers) ≤ 13 * n
  unfolding lines
  length-lines zero h = omega arith
  length-lines (suc n) h =
      let a = bytes (2 * n) in
      let b = bytes (2 * n + 1) in
      let l = length-lines n (omega arith) in
      let m = length-line n (get_or answers (2 * n) 0) (get_or answers (2 * n + 1) 0) (omega arith) (omega arith) (omega arith) in
      rw length-append (omega arith)

  pub whole_room : (count : ℕ) {size : ℕ} → count ≤ most_events → text_size ≤ size
      → 0 + length (lines count answers ++ closing (ascii "end ") count) ≤ size
  unfolding closing ascii
  whole_room count h room =
      let l = length-lines count (omega arith) in
      let d = length-decimal 3 count (omega arith) in
      simp length-append (omega arith)

pub refusal_room : (number : ℕ) {size : ℕ} → number < 256 → text_size ≤ size
    → 0 + length (closing (ascii "refused ") number) ≤ size
unfolding closing ascii
refusal_room number h room = let d = length-decimal 2 number (omega arith) in simp length-append (omega arith)

-- ---- in lent bytes

pub text_made : (policy events : List ℕ) {before after : List ℕ} {next : ℕ} → text_size ≤ length before
    → Puts (report_text policy events) before 0 after next → made next after ≡ text_call policy events before
unfolding text_call
text_made policy events {before} room puts =
    let e = sets-eq (report_text policy events) before 0 puts.room in
    rw (le-ltb (length before) text_size room, puts.stored, puts.behind, e, zero-add)
