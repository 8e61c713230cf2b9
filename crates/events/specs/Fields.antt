-- Two records compared number by number: a step between `read_event`, which compares bytes, and the code.
use Rattle.std.specs.Prelude.{Bool, ◌&&◌, eqb}
use Rattle.device.specs.declared.Fields.{Fields}

unfoldable pub same_fields : Fields → Fields → Bool
same_fields one other =
    eqb one.kind other.kind && (eqb one.domain other.domain && (eqb one.suite other.suite
    && (eqb one.permission other.permission && (eqb one.answer other.answer
    && (eqb one.pad other.pad && (eqb one.required other.required && eqb one.optional other.optional))))))
