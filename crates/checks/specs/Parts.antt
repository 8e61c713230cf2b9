-- A part of lent bytes, by its place: the same memory, and not only equal bytes; and the place of a suite.
use Rattle.std.specs.Prelude.{ℕ, ◌+◌, ◌≡◌, cond, List, take, drop, Result, Ok, Err}
use Rattle.std.specs.Borrow.{Bor}
use Rattle.device.specs.declared.Suite.{Suite}
use Rattle.device.specs.declared.Refusal.{Refusal}
use Rattle.device.specs.declared.Response.{Response}
use Rattle.device.specs.Answers.{DONE, refusing, refused}
use Rattle.model.specs.State.{place, read_state}
use Rattle.model.specs.Calls.{Part, find_call}

-- the reference `got` is that part of what is lent: it begins that many bytes behind its beginning, and has the bytes that stand there
pub record IsPart (lent : Bor (List ℕ)) (part : Part) (got : Bor (List ℕ)) : Type 0 where
  pub block : got.ref_ptr.0 ≡ lent.ref_ptr.0
  pub start : got.ref_ptr.1 ≡ lent.ref_ptr.1 + part.from
  pub bytes : got.now ≡ take part.size (drop part.from lent.now)

-- ---- a suite's place: as `find` answers, and where that is no refusal the place of its slot, from 0

pub record Placed : Type 0 where
  pub response : Response
  pub slot : ℕ

abbrev pub placing : Result ℕ Refusal → Placed
placing (Ok slot) = record { response = DONE; slot = slot }
placing (Err refusal) = record { response = refusing refusal; slot = 0 }

unfoldable pub place_call : (policy state : List ℕ) → Suite → Placed
place_call policy state suite =
    let found = find_call policy state suite in
    record { response = found; slot = cond (refused found) 0 (place suite (read_state state).slots) }
