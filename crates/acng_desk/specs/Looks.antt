-- What a desk tells of a path.
use Rattle.acng_rows.specs.declared.row.Whole.{Whole}
use Rattle.acng_desk.specs.declared.looks.RowFacts.{RowFacts}
use Rattle.acng_desk.specs.House.{facts_of}

abbrev pub row_facts : Whole → RowFacts
row_facts w = record {
  id = record { 0 = w.id };
  label = w.label;
  facts = facts_of w;
  size = w.size;
  checked = w.checked;
  mark = w.mark;
}
