-- Offset tables: String, Constant, and Type's frame; and Producer (document 01, "The container"). Padding counts
-- from the payload's start.
use Rattle.std.specs.Prelude.{ℕ, ◌≤◌, ◌<◌, List, [], ◌++◌, length}
use Rattle.std.proofs.Math.Option.{Option, some}
use Rattle.exact.specs.Exact.{Lang}
use Rattle.exact.specs.Upto.{Whole}
use Rattle.exact.specs.Entries.{Rows, Entries}
use Rattle.enums.specs.Container.{P}
use Rattle.encoding.specs.Varint.{Spells}
use Rattle.format.specs.Items.{Number}

-- No rows.
abbrev pub no_rows : {A : Type 0} → Rows A
no_rows = record { at = []; values = [] }

-- A table with starts of w bytes after padding to a, in a payload that begins at file offset o: a count of 0 ends it;
-- else entry i runs to the next start and the last to the data's end, and a first start above 0 leaves a gap.
pub data OffsetTable {A : Type 0} (w a o : ℕ) (R : ℕ → List ℕ → A → Type 0) : ℕ → List ℕ → Rows A → Type 0 where
  empty : {i : ℕ} {count : List ℕ} (left : List ℕ) → Spells count 0 → OffsetTable w a o R i (count ++ left) no_rows
  filled : {i : ℕ} {bs : List ℕ} {v : Rows A} → Entries Number P w a o R i bs v → 1 ≤ length v.values →
      OffsetTable w a o R i bs v

-- String: padding to 4, u32 starts. An entry is its bytes.
abbrev pub Strings : ℕ → Lang (Rows (List ℕ))
Strings o = OffsetTable 4 4 o Whole

-- Constant: the same with padding to 8 and u64 starts.
abbrev pub Constants : ℕ → Lang (Rows (List ℕ))
Constants o = OffsetTable 8 8 o Whole

-- Producer: a varint string index, inside the n strings; any bytes after it.
pub data Producer (n : ℕ) : ℕ → List ℕ → Option ℕ → Type 0 where
  producer : {i : ℕ} {bs : List ℕ} {index : ℕ} (left : List ℕ) → Spells bs index → index < n →
      Producer n i (bs ++ left) (some index)
