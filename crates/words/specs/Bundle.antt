-- What a bundle's words are refused for, before any item is done; and an item.
use Rattle.std.specs.Prelude.{ℕ, List, not}
use Rattle.rules.specs.Words.{Item, bundle_whole, bundle_known, bundle_measured}
use Rattle.rules.specs.Outcome.{◌gives◌then◌}

unfoldable pub form_refusal : List ℕ → ℕ
form_refusal ws =
    not (bundle_whole ws) gives 11 then
    not (bundle_known ws) gives 10 then
    not (bundle_measured ws) gives 11 then 0

abbrev pub item_of : ℕ → List ℕ → Item
item_of kind ws = record { kind = kind; words = ws }
