use mathlib.Core.List.{[], ◌∷◌, ◌++◌}
use Rattle.words.specs.Numbers.{bytes_of}
use Rattle.words.proofs.Stores.{sets_next}
use Rattle.model.specs.State.{slot_bytes}
use Rattle.store.proofs.put_slot.Goals as goal

-- Each store goes behind those before it: all eight are the stores of the record.

pub returns : goal.returns
unfolding slot_bytes bytes_of
returns c =
    let a = c.args in
    let l = a.state.now in
    let i = a.a in
    let x = a.x in
    let u1 = bytes_of 2 x.suite.0 in
    let u2 = u1 ++ (x.domain.0 ∷ []) in
    let u3 = u2 ++ (0 ∷ []) in
    let u4 = u3 ++ bytes_of 4 0 in
    let u5 = u4 ++ bytes_of 8 x.descriptor.required in
    let u6 = u5 ++ bytes_of 8 x.descriptor.optional in
    let u7 = u6 ++ bytes_of 8 x.decisions.granted in
    let e2 = sets_next l i u1 (x.domain.0 ∷ []) c.write.ensures.bytes c.write-2.ensures.byte in
    let e3 = sets_next l i u2 (0 ∷ []) e2 c.write-3.ensures.byte in
    let e4 = sets_next l i u3 (bytes_of 4 0) e3 c.write-4.ensures.bytes in
    let e5 = sets_next l i u4 (bytes_of 8 x.descriptor.required) e4 c.write-5.ensures.bytes in
    let e6 = sets_next l i u5 (bytes_of 8 x.descriptor.optional) e5 c.write-6.ensures.bytes in
    let e7 = sets_next l i u6 (bytes_of 8 x.decisions.granted) e6 c.write-7.ensures.bytes in
    sets_next l i u7 (bytes_of 8 x.decisions.revoked) e7 c.write-8.ensures.bytes
