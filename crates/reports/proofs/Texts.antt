-- A text by its cases, its lines, and the text in lent bytes. Assumes nothing.
use mathlib.Core.Path.{◌≡◌, refl, sym, ap, ◌∙◌}
use mathlib.Core.Bool.{true, false}
use mathlib.Core.List.{List, [], ◌++◌}
use Prim.Native.Nat.{ℕ, zero, suc, ◌+◌, ◌*◌, ◌/◌, ◌≤◌, ◌<◌}
use native.Mathlib.Omega.{arith}
use lib.ListN.{length, get_or, take, drop, replicate, length-append, length-replicate}
use lib.Seq.{length-take-le, take-append_seam}
use lib.Dec.{ltb}
use borrow.Author.Tests.{lt-ltb, le-ltb}
use Rattle.std.specs.Prelude.{Option}
use Rattle.std.specs.Simd.{first_chunks}
use Rattle.std.specs.Io.KnownBytes.{Appends}
use Rattle.std.proofs.lemmas.List.{get_or-take, get_or-drop}
use Rattle.device.specs.declared.Response.{Response}
use Rattle.device.specs.Answers.{refused}
use Rattle.model.proofs.Tests.{cases}
use Rattle.reports.specs.Text.{ascii, line, lines, closing, text_of, report_text, text_size}
use Rattle.reports.specs.Text.{Made, made, text_call}
use Rattle.reports.specs.Steps.{policy_read, events_read, TextOfFiles, OfFiles, Printed, Wrote}

-- ---- refused, or whole

module _ (r : Response) (count : ℕ) (answers : List ℕ) where
  pub refused_text : refused r ≡ true → closing (ascii "refused ") r.number ≡ text_of r count answers
  unfolding text_of
  refused_text h = sym (rw h)

  pub whole_text : refused r ≡ false → lines count answers ++ closing (ascii "end ") count ≡ text_of r count answers
  unfolding text_of
  whole_text h = sym (rw h)

-- ---- its lines

-- the first k pairs, and their bytes
length-pairs : (k : ℕ) (bytes : List ℕ) → length (first_chunks 2 k bytes) ≡ k
length-pairs zero bytes = refl
length-pairs (suc k) bytes = ap (λ n. suc n) (length-pairs k (drop 2 bytes))

in_pair : (k i j at : ℕ) (bytes : List ℕ) → i < k → j < 2 → 2 * i + j ≡ at
    → get_or (get_or (first_chunks 2 k bytes) i []) j 0 ≡ get_or bytes at 0
in_pair zero i j at bytes h l e = absurd (omega arith)
in_pair (suc k) zero j at bytes h l e = get_or-take 2 bytes j 0 l ∙ ap (λ n. get_or bytes n 0) (omega arith)
in_pair (suc k) (suc i) j at bytes h l e =
    in_pair k i j (2 * i + j) (drop 2 bytes) (omega arith) l refl
    ∙ get_or-drop 2 bytes (2 * i + j) 0 ∙ ap (λ n. get_or bytes n 0) (omega arith)

module _ (count : ℕ) (answers : List ℕ) (room : 2 * count ≤ length answers) {pairs : List (List ℕ)}
    (cut : pairs ≡ first_chunks 2 (length (take (2 * count) answers) / 2) (take (2 * count) answers)) where
  pub counted_pairs : length pairs ≡ count
  counted_pairs = rw (cut, length-pairs, length-take-le) (omega arith)

  -- a line from its pair
  pub line_more : (i : ℕ) → i < count → lines (suc i) answers
      ≡ lines i answers ++ line i (get_or (get_or pairs i []) 0 0) (get_or (get_or pairs i []) 1 0)
  unfolding lines
  line_more i h = rw (cut, byte 0 (2 * i) (omega arith) (omega arith), byte 1 (2 * i + 1) (omega arith) (omega arith))
    where
      byte : (j at : ℕ) → j < 2 → 2 * i + j ≡ at
          → get_or (get_or (first_chunks 2 (length (take (2 * count) answers) / 2) (take (2 * count) answers)) i []) j 0
          ≡ get_or answers at 0
      byte j at l e =
          in_pair _ i j at (take (2 * count) answers) (rw length-take-le (omega arith)) l e
          ∙ get_or-take (2 * count) answers at 0 (omega arith)

-- ---- in lent bytes

pub text_small : (policy events before : List ℕ) → length before < text_size → made 0 before ≡ text_call policy events before
unfolding text_call
text_small policy events before h = sym (rw (lt-ltb (length before) text_size))

pub text_placed : (policy events before : List ℕ) {text : List ℕ} → text ≡ report_text policy events → text_size ≤ length before
    → made (length text) (text ++ drop (length text) before) ≡ text_call policy events before
unfolding text_call
text_placed policy events before e room = rw (e, le-ltb (length before) text_size room)

-- two outcomes that fit the contract are equal
pub text_unique : {call : Made} {size size' : ℕ} {lent lent' : List ℕ} → made size lent ≡ call → made size' lent' ≡ call
    → (size ≡ size') × (lent ≡ lent')
text_unique p q = (ap (λ m. m.size) (p ∙ sym q), ap (λ m. m.lent) (p ∙ sym q))

-- the text is a part of what is lent
abbrev Within : Made → Type 0
Within m = m.size ≤ length m.lent

within : (policy events before : List ℕ) → Within (text_call policy events before)
unfolding text_call
within policy events before =
    cases Within (ltb (length before) text_size) (λ _. omega arith) (λ _. rw length-append (omega arith))

pub of_files : (policy events before : List ℕ) {after : List ℕ} {size : ℕ} → made size after ≡ text_call policy events before
    → length policy ≤ policy_read → length events ≤ events_read → OfFiles before after size
of_files policy events before {after} {size} e p q =
    let h : size ≤ length after = rw (← e) at (within policy events before) in
    record {
      policy = policy;
      events = events;
      policy_within = p;
      events_within = q;
      counts = (h, sym (length-take-le size after h));
      text = e;
    }

-- ---- printed: the text stands in a lent buffer of that size, too

module _ {text : List ℕ} (t : TextOfFiles text) where
  abbrev before : List ℕ
  before = replicate text_size 0

  abbrev lent : List ℕ
  lent = text ++ drop (length text) before

  in_lent : OfFiles before lent (length text)
  in_lent =
      let room : text_size ≤ length before = rw length-replicate (omega arith) in
      of_files t.policy t.events before (text_placed t.policy t.events before t.reported room) t.policy_within t.events_within

  pub printed : Printed (length text)
  printed = record { before = before; lent = lent; of_files = in_lent }

  pub wrote : {held holds : Option (List ℕ)} → Appends held holds text → Wrote held holds (length text)
  wrote {held} {holds} h = record {
    before = before;
    lent = lent;
    room = length-replicate {A = ℕ} text_size 0;
    of_files = in_lent;
    sent = rw take-append_seam h;
  }
