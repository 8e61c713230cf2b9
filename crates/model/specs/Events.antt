-- 01, Records: Event. 000, Table 1.
use Rattle.std.specs.Prelude.{ℕ, Bool, true, false, ◌&&◌, cond, List, [], ◌∷◌, ◌++◌, get_or, eqb}
use Rattle.words.specs.Numbers.{le_at, bytes_of}
use Rattle.device.specs.declared.Suite.{Suite}
use Rattle.device.specs.declared.Fields.{Fields}
use Rattle.device.specs.declared.Event.{Event}
use Rattle.device.specs.declared.Event.TheVariants.{Unreadable, Install, Remove, Start, Terminate, Request}
use Rattle.device.specs.Device.{is_permission, is_domain, is_suite, is_set}
use Rattle.device.specs.UserAnswers.{answer_no, answer_of}

-- ---- the bytes of a record, and its numbers

abbrev pub event_size : ℕ
event_size = 24

-- bytes 0 the kind, 1 the domain, 2-3 the suite, 4 the permission, 5 the answer, 6-7 unused, 8-15 required, 16-23 optional
unfoldable pub fields_at : List ℕ → Fields
fields_at bytes = record {
  kind = get_or bytes 0 0;
  domain = get_or bytes 1 0;
  suite = le_at 2 bytes 2;
  permission = get_or bytes 4 0;
  answer = get_or bytes 5 0;
  pad = le_at 2 bytes 6;
  required = le_at 8 bytes 8;
  optional = le_at 8 bytes 16;
}

unfoldable pub field_bytes : Fields → List ℕ
field_bytes fields =
    fields.kind ∷ fields.domain ∷ (bytes_of 2 fields.suite ++ (fields.permission ∷ fields.answer
    ∷ (bytes_of 2 fields.pad ++ (bytes_of 8 fields.required ++ bytes_of 8 fields.optional))))

-- ---- the events by their numbers

-- what no event uses is 0
abbrev pub numbers : (kind domain suite permission answer required optional : ℕ) → Fields
numbers kind domain suite permission answer required optional = record {
  kind = kind;
  domain = domain;
  suite = suite;
  permission = permission;
  answer = answer;
  pad = 0;
  required = required;
  optional = optional;
}

-- the kinds are 1 install, 2 remove, 3 start, 4 terminate, 5 request; a number that a kind has no use for is 0
abbrev pub fields_of : Event → Fields
fields_of Unreadable = numbers 0 0 0 0 0 0 0
fields_of (Install suite descriptor domain) =
    numbers 1 domain.0 suite.0 0 0 descriptor.required descriptor.optional
fields_of (Remove suite) = numbers 2 0 suite.0 0 0 0 0
fields_of (Start suite) = numbers 3 0 suite.0 0 0 0 0
fields_of Terminate = numbers 4 0 0 0 0 0 0
fields_of (Request permission answer) = numbers 5 0 0 permission.0 (answer_no answer) 0 0

-- the event that the numbers may say
unfoldable pub event_of : Fields → Event
event_of fields =
    let suite : Suite = record { 0 = fields.suite } in
    cond (eqb fields.kind 1)
    (Install suite (record { required = fields.required; optional = fields.optional }) (record { 0 = fields.domain }))
    (cond (eqb fields.kind 2) (Remove suite)
    (cond (eqb fields.kind 3) (Start suite)
    (cond (eqb fields.kind 4) Terminate
    (cond (eqb fields.kind 5) (Request (record { 0 = fields.permission }) (answer_of fields.answer))
    Unreadable))))

-- the events that a record carries: domain 0 and permission 0 are as good as any, suite 0 is not; the two sets of an install may meet
abbrev pub carried : Event → Bool
carried Unreadable = false
carried (Install suite descriptor domain) =
    is_suite suite && (is_set descriptor.required && (is_set descriptor.optional && is_domain domain))
carried (Remove suite) = is_suite suite
carried (Start suite) = is_suite suite
carried Terminate = true
carried (Request permission answer) = is_permission permission

-- ---- reading and writing

abbrev pub write_event : Event → List ℕ
write_event event = field_bytes (fields_of event)

-- the event whose record the bytes may be
unfoldable pub event_in : List ℕ → Event
event_in bytes = event_of (fields_at bytes)

unfoldable pub same_bytes : List ℕ → List ℕ → Bool
same_bytes [] [] = true
same_bytes [] (other ∷ others) = false
same_bytes (byte ∷ bytes) [] = false
same_bytes (byte ∷ bytes) (other ∷ others) = eqb byte other && same_bytes bytes others

-- an event is read of its own record, to the byte; any other list of bytes is no event
unfoldable pub read_event : List ℕ → Event
read_event bytes =
    cond (carried (event_in bytes) && same_bytes (write_event (event_in bytes)) bytes) (event_in bytes) Unreadable
