use mathlib.Core.Path.{◌≡◌, sym, ◌∙◌}
use Prim.Native.Nat.{◌+◌, ◌*◌}
use Rattle.device.specs.Empty.{free}
use Rattle.model.specs.Policy.{fixed_by}
use Rattle.model.specs.State.{slot_at, read_state}
use Rattle.store.proofs.Records.{slots_get}
use Rattle.checks.proofs.Slots.{sound_domain, slot_nonzero, slot_unsound, slot_again, slot_last}
use Rattle.checks.proofs.Policy.slot_valid.Goals as goal
use Rattle.checks.proofs.Policy.slot_valid.Goals.{then-slot_zeros, else-slot_zeros, then-slot_sound, else-slot_sound}

pub returns-then-own_number : goal.returns-then-own_number
unfolding read_state
returns-then-own_number c =
    let f = fixed_by c.args.self.now.cells.now in
    let b = c.args.state.now in
    let k = c.args.k in
    let x = c.read_slot-x.result in
    let at : x ≡ slot_at b (40 + 40 * k) = c.read_slot-x.ensures ∙ slots_get b free 32 40 k c.requires in
    let row = c.row-row.ensures in
    elim c.if-slot_sound.branch [
      | then-slot_sound w ↦ elim c.if-slot_zeros.branch [
        | then-slot_zeros v ↦
            let zeros = sym c.slot_zeros.ensures ∙ v.if-slot_zeros.true in
            let sound = sym (v.slot_sound.ensures f row) ∙ sym v.value-is ∙ w.if-slot_sound.true in
            let own = sym w.own_number.ensures ∙ sym w.value-is ∙ c.if-own_number.true in
            c.slot_decided.ensures f (row (sound_domain f x sound)) ∙ slot_last f b k x at zeros sound own
        | else-slot_zeros v ↦ cc
      ]
      | else-slot_sound w ↦ cc
    ]

pub returns-else-own_number : goal.returns-else-own_number
unfolding read_state
returns-else-own_number c =
    let f = fixed_by c.args.self.now.cells.now in
    let b = c.args.state.now in
    let k = c.args.k in
    let x = c.read_slot-x.result in
    let at : x ≡ slot_at b (40 + 40 * k) = c.read_slot-x.ensures ∙ slots_get b free 32 40 k c.requires in
    let row = c.row-row.ensures in
    c.if-own_number.false ∙ elim c.if-slot_zeros.branch [
      | then-slot_zeros v ↦
          let zeros = sym c.slot_zeros.ensures ∙ v.if-slot_zeros.true in
          elim c.if-slot_sound.branch [
            | then-slot_sound w ↦
                let sound = sym (v.slot_sound.ensures f row) ∙ sym v.value-is ∙ w.if-slot_sound.true in
                slot_again f b k x at zeros sound (sym w.own_number.ensures ∙ sym w.value-is ∙ c.if-own_number.false)
            | else-slot_sound w ↦
                slot_unsound f b k x at zeros (sym (v.slot_sound.ensures f row) ∙ sym v.value-is ∙ w.if-slot_sound.false)
          ]
      | else-slot_zeros v ↦ slot_nonzero f b k (sym c.slot_zeros.ensures ∙ v.if-slot_zeros.false)
    ]
