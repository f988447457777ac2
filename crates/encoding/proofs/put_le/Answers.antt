-- `put_le` puts the bytes of a number, once over the width. Assumes nothing.
use native.Mathlib.Omega.{arith}
use Rattle.exact.proofs.LawsFixed.{length-bytes_of}
use Rattle.encoding.proofs.LawsOut.{put_part, low-bytes-of}
use Rattle.encoding.proofs.put_le.Goals as goal

pub returns : goal.returns
returns c =
    let a = c.args in
    let e = length-bytes_of a.width a.value in
    let k = c.copy_from_slice.ensures.after in
    rw (k, c.to_le_bytes-bytes.ensures, low-bytes-of a.width a.value c.requires.0) (put_part _ _ _ _ (omega arith) (omega arith))
