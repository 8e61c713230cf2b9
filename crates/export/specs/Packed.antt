-- What crosses the C boundary: an answer and a part of the lent state, each in one number, and the parts of such a number as the
-- header's `tm_number`, `tm_detail`, `tm_record_offset` and `tm_record_length` take them.
use Rattle.std.specs.Prelude.{ℕ, ◌+◌, ◌*◌, ◌/◌, ◌%◌, ◌^◌, Bool, List}
use Rattle.device.specs.declared.Response.{Response}
use Rattle.device.specs.Answers.{refused}
use Rattle.model.specs.Calls.{Called, Ran, Part}

-- the number, and above it the detail
abbrev pub packed : Response → ℕ
packed response = response.number + 256 * response.detail

abbrev pub unpacked : ℕ → Response
unpacked n = record { number = n % 256; detail = n / 256 }

-- where it begins, and above that its size
abbrev pub packed_part : Part → ℕ
packed_part part = part.from + 2 ^ 32 * part.size

abbrev pub unpacked_part : ℕ → Part
unpacked_part n = record { from = n % 2 ^ 32; size = n / 2 ^ 32 }

-- `tm_refused`
abbrev pub refused_no : ℕ → Bool
refused_no n = refused (unpacked n)

-- the number returned, and the lent bytes afterwards
pub record Sent : Type 0 where
  pub number : ℕ
  pub bytes : List ℕ

abbrev pub sent : ℕ → List ℕ → Sent
sent n bytes = record { number = n; bytes = bytes }

abbrev pub packed_call : Called → Sent
packed_call called = sent (packed called.response) called.bytes

-- of a run: the number returned, the count, and the lent bytes afterwards
pub record SentRun : Type 0 where
  pub number : ℕ
  pub count : ℕ
  pub state : List ℕ
  pub output : List ℕ

abbrev pub sent_run : ℕ → (count : ℕ) → (state output : List ℕ) → SentRun
sent_run n count state output = record { number = n; count = count; state = state; output = output }

abbrev pub packed_run : Ran → SentRun
packed_run ran = sent_run (packed ran.response) ran.count ran.state ran.output
