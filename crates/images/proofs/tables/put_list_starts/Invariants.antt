-- `put_list_starts` puts the starts one by one: whatever putting the rest leaves, putting them all leaves it.
-- Assumes nothing.
use Rattle.std.proofs.Common.{ℕ, ◌-◌, List}
use Rattle.enums.specs.declared.VersionClass.{VersionClass}
use Rattle.images.specs.Tables.{ids, StartsPut}
use Rattle.images.specs.declared.rows.Row.TheVariants as row
use Rattle.images.proofs.LawsTables.{ListsEnd}
use Rattle.images.proofs.tables.put_list_starts.Given as goal

abbrev pub invariant-loop : goal.invariant-loop
invariant-loop l = record {
  starts :
      (v : VersionClass) (out' : List ℕ) (r : ℕ) →
      StartsPut v row.List ids l.table.width (l.table.count - l.counter) l.sheet l.this.word l.this.start.0 l.next l.out out' r →
      StartsPut v row.List ids l.table.width l.table.count l.sheet l.table.word 0 l.at l.initial.out out' r;
  end :
      (e : ℕ) → ListsEnd (l.table.count - l.counter) l.sheet l.this.word l.this.start.0 e →
      ListsEnd l.table.count l.sheet l.table.word 0 e;
}
