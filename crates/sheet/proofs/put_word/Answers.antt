-- `put_word` stores the word where there is room for it. Assumes nothing.
use mathlib.Core.Path.{sym, ◌∙◌}
use Prim.Native.Nat.{◌+◌, ◌-◌, ◌*◌}
use native.Mathlib.Omega.{arith}
use Rattle.exact.specs.Fixed.{bytes_of}
use Rattle.exact.proofs.LawsFixed.{length-bytes_of}
use Rattle.encoding.proofs.LawsOut.{put_full}
use Rattle.sheet.specs.Store.{put_word}
use Rattle.sheet.proofs.LawsStore.{put-part}
use Rattle.sheet.proofs.put_word.Goals as goal

pub returns-then-i-store : goal.returns-then-i-store
unfolding put_word
returns-then-i-store c =
    let a = c.args in
    put-part a.store.now (bytes_of 8 a.w) _ (a.i * 8) (a.i * 8 + 8 - a.i * 8) (omega arith)
    (length-bytes_of 8 a.w ∙ omega arith) c.patch_u64.ensures.output

pub returns-else-i-store : goal.returns-else-i-store
unfolding put_word
returns-else-i-store c =
    let s = c.args.store.now in
    let i = c.args.i in
    let w = c.args.w in
    sym (put_full s (i * 8) (bytes_of 8 w) (omega (arith, length-bytes_of 8 w)))
