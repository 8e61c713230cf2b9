use mathlib.Core.Path.{sym}
use borrow.Author.Rules.{rules}
use Rattle.words.specs.Numbers.{bytes_of}
use Rattle.words.proofs.Stores.{sets_whole}
use Rattle.model.specs.Events.{field_bytes}
use Rattle.events.proofs.put_fields.Goals as goal

-- The eight stores, one after the other, are the stores of the whole record, which covers the list.

pub returns : goal.returns
unfolding field_bytes bytes_of
returns c =
    rw (
      c.write-8.ensures.bytes,
      c.write-7.ensures.bytes,
      c.write-6.ensures.bytes,
      c.write-5.ensures.byte,
      c.write-4.ensures.byte,
      c.write-3.ensures.bytes,
      c.write-2.ensures.byte,
      c.write.ensures.byte,
    )
    (sets_whole c.args.bytes.now (field_bytes c.args.f) (sym (search rules)))
