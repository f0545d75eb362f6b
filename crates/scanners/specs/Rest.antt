-- The characters from a place on. Cited by contracts that are private to the crate; nobody has to believe it.
use Rattle.std.specs.Prelude.{List, ℕ}
use Rattle.utf8.specs.Utf8.{chars_at}
use Rattle.scanners.specs.declared.place.Place.{Place}

abbrev pub rest : Place → List ℕ
rest p = chars_at p.bytes.now p.pos
