-- The list that stands in the front of an array.
use Rattle.std.specs.Prelude.{ℕ, List, take}
use Rattle.lists.specs.declared.front.Front.{Front}

abbrev pub held : {T : Type 0} {n : ℕ} → Front T n → List T
held f = take f.len f.items
