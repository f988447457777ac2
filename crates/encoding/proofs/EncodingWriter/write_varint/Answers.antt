-- `write_varint` writes the shortest spelling, one byte as `write_byte` does. Assumes nothing.
use mathlib.Core.Path.{refl, sym, ap, ◌∙◌}
use Prim.Native.Nat.{ℕ}
use Rattle.std.specs.Prelude.{Result, Ok}
use Rattle.enums.specs.declared.Refusal.{Refusal}
use Rattle.encoding.specs.declared.EncodingWriter.{EncodingWriter}
use Rattle.encoding.proofs.LawsVarint.{spelling-last}
use Rattle.encoding.proofs.LawsOut.{puts-as}
use Rattle.encoding.proofs.LawsWritten.{writes-room, writes-full}
use Rattle.encoding.proofs.EncodingWriter.write_varint.Goals as goal

pub returns-then-value-lt128 : goal.returns-then-value-lt128
returns-then-value-lt128 c = puts-as (sym (spelling-last _ c.if-value-lt128.true)) c.write_byte.ensures

pub returns-then-varint_has_room : goal.returns-then-varint_has_room
returns-then-varint_has_room c =
    let w = c.args.self in
    let h = c.varint_has_room.ensures.holds c.if-varint_has_room.true in
    let to : ℕ → Result EncodingWriter Refusal = λ k. Ok (record { at = k; required_alignment = w.required_alignment }) in
    let m = ap Ok c.moved.ensures ∙ ap to c.put_varint-next.ensures.place in
    writes-room w _ refl h c.put_varint-next.ensures.output m

pub returns : goal.returns
returns c =
    let w = c.args.self in
    writes-full w _ refl (c.varint_has_room.ensures.fails c.if-varint_has_room.false)
