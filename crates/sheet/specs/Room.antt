-- What a lent buffer holds after something was to be stored from its start: that, where there is room for it, and else what it held.
use Rattle.std.specs.Prelude.{ℕ, cond, List, length, leb}
use Rattle.std.proofs.lemmas.List.Edits.{sets}

abbrev pub filled : List ℕ → List ℕ → List ℕ
filled old new = cond (leb (length new) (length old)) (sets old 0 new) old
