-- 01, Records: what a record says that is zero throughout.
use Rattle.device.specs.declared.Decisions.{Decisions}
use Rattle.device.specs.declared.Slot.{Slot}
use Rattle.device.specs.declared.Session.{Session}
use Rattle.device.specs.Device.{no_suite}

-- nothing granted, nothing revoked
abbrev pub undecided : Decisions
undecided = record { granted = 0; revoked = 0 }

-- a slot that no suite has
abbrev pub free : Slot
free = record {
  suite = no_suite;
  domain = record { 0 = 0 };
  descriptor = record { required = 0; optional = 0 };
  decisions = undecided;
}

-- the session when nothing runs
abbrev pub idle : Session
idle = record { suite = no_suite; decisions = undecided }
