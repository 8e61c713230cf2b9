-- 01, One listing, whole: from the bytes of the two files to the bytes that the report prints.
use Rattle.std.specs.Prelude.{ℕ, zero, suc, ◌+◌, ◌*◌, ◌/◌, ◌%◌, cond, List, [], ◌∷◌, ◌++◌, length, get_or, drop, replicate, ltb}
use Prim.Native.Char.{code}
use Prim.Native.String.{String, [] as none, ◌∷◌ as ◌then◌}
use Rattle.device.specs.declared.Response.{Response}
use Rattle.model.specs.State.{state_size}
use Rattle.model.specs.Events.{event_size}
use Rattle.device.specs.Answers.{refused, BAD_LENGTH}
use Rattle.model.specs.Calls.{answer_size, run_call}

-- the bytes of a quoted text
unfoldable pub ascii : String → List ℕ
ascii none = []
ascii (letter then rest) = code letter ∷ ascii rest

-- the digits of n, of which there are at most k: those of its tenth, unless n is one digit, and the last; 48 is the byte of 0
unfoldable pub digits : ℕ → ℕ → List ℕ
digits zero n = []
digits (suc k) n = cond (ltb n 10) [] (digits k (n / 10)) ++ ((48 + n % 10) ∷ [])

-- a number has fewer digits than it has numbers up to it
unfoldable pub decimal : ℕ → List ℕ
decimal n = digits (suc n) n

-- a number, and what stands behind it
abbrev pub shown : ℕ → String → List ℕ
shown n behind = decimal n ++ ascii behind

unfoldable pub line : (index number detail : ℕ) → List ℕ
line index number detail = shown index " " ++ (shown number " " ++ shown detail "\n")

-- the lines of the first n events, from the two bytes of each answer
unfoldable pub lines : ℕ → List ℕ → List ℕ
lines zero answers = []
lines (suc n) answers = lines n answers ++ line n (get_or answers (answer_size * n) 0) (get_or answers (answer_size * n + 1) 0)

-- a word and a number: the last line, and the only one of a refused run
unfoldable pub closing : List ℕ → ℕ → List ℕ
closing word n = word ++ shown n "\n"

unfoldable pub text_of : Response → (count : ℕ) → (answers : List ℕ) → List ℕ
text_of response count answers =
    cond (refused response) (closing (ascii "refused ") response.number)
    (lines count answers ++ closing (ascii "end ") count)

abbrev pub most_events : ℕ
most_events = 2000

-- more events are 30. A run that is refused counts none, so that its own number is printed, 16 before 30
unfoldable pub report_text : (policy events : List ℕ) → List ℕ
report_text policy events =
    let room : List ℕ = replicate (answer_size * (length events / event_size)) 0 in
    let ran = run_call policy (replicate state_size 0) events room in
    text_of (cond (ltb most_events ran.count) BAD_LENGTH ran.response) ran.count ran.output

-- ---- the text in lent bytes

-- a line has an index of at most four digits, two numbers of at most three, and a byte behind each; the last has four digits
abbrev pub text_size : ℕ
text_size = 13 * most_events + 9

-- how many of the lent bytes are the text, and all of them
pub record Made : Type 0 where
  pub size : ℕ
  pub lent : List ℕ

abbrev pub made : ℕ → List ℕ → Made
made n b = record { size = n; lent = b }

-- less than the longest text is left as it was, and so is what lies behind the text
unfoldable pub text_call : (policy events lent : List ℕ) → Made
text_call policy events lent =
    let text = report_text policy events in
    cond (ltb (length lent) text_size) (made 0 lent) (made (length text) (text ++ drop (length text) lent))
