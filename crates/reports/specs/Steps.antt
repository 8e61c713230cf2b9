-- Steps between the text and the code.
use Rattle.std.specs.Prelude.{ℕ, suc, ◌+◌, ◌*◌, ◌≤◌, ◌≡◌, cond, List, Option, length, ltb, take}
use Rattle.std.specs.Io.KnownBytes.{Appends}
use Rattle.std.proofs.lemmas.List.Edits.{sets}
use Rattle.io.specs.Counts.{IsPrefixLen}
use Rattle.model.specs.Policy.{policy_size}
use Rattle.model.specs.Events.{event_size}
use Rattle.model.specs.Calls.{answer_size}
use Rattle.reports.specs.Text.{most_events, report_text, text_size, made, text_call}

-- a part of the text has room in the lent bytes from a place on
abbrev pub Room : (part lent : List ℕ) (at : ℕ) → Type 0
Room part lent at = at + length part ≤ length lent

-- it stands there, the rest is as it was, and the place behind it is known
pub record Puts (part before : List ℕ) (at : ℕ) (after : List ℕ) (next : ℕ) : Type 0 where
  pub room : Room part before at
  pub stored : after ≡ sets before at part
  pub behind : next ≡ at + length part

-- the bytes lent for the answers to n events; none for more than are taken, which a run refuses by 30, after 16
unfoldable pub room_for : ℕ → ℕ
room_for n = cond (ltb most_events n) 0 (answer_size * n)

-- what is read of each file, at most: a byte more than is taken
abbrev pub policy_read : ℕ
policy_read = suc policy_size

abbrev pub events_read : ℕ
events_read = suc (event_size * most_events)

-- the text of some policy and of some events. Which bytes the files gave, no contract can say; this one tells the two apart, by
-- their sizes
pub record TextOfFiles (text : List ℕ) : Type 0 where
  pub policy : List ℕ
  pub events : List ℕ
  pub policy_within : length policy ≤ policy_read
  pub events_within : length events ≤ events_read
  pub reported : text ≡ report_text policy events

-- the lent bytes have such a text
pub record OfFiles (before after : List ℕ) (size : ℕ) : Type 0 where
  pub policy : List ℕ
  pub events : List ℕ
  pub policy_within : length policy ≤ policy_read
  pub events_within : length events ≤ events_read
  pub counts : IsPrefixLen size after
  pub text : made size after ≡ text_call policy events before

-- so many of some such bytes
pub record Printed (size : ℕ) : Type 0 where
  pub before : List ℕ
  pub lent : List ℕ
  pub of_files : OfFiles before lent size

-- behind what a writer held stand so many of some such bytes, lent with room for every text. Of a writer whose bytes nothing tells,
-- as a terminal's, that says no more
pub record Wrote (held holds : Option (List ℕ)) (size : ℕ) : Type 0 where
  pub before : List ℕ
  pub lent : List ℕ
  pub room : length before ≡ text_size
  pub of_files : OfFiles before lent size
  pub sent : Appends held holds (take size lent)
