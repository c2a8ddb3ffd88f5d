-- Where a node name stands; the function `places` promises it.
use Rattle.std.specs.Prelude.{ℕ, ◌<◌, List, ◌∷◌, ◌++◌, ◌≡◌, ◌≢◌, get_or, length, drop}
use Rattle.entry.specs.Entry.{before_name}
use Rattle.entry.specs.Pieces.{newline_code}
use Rattle.config.specs.Settings.{name_place}

pub record Places : Type 0 where
  -- whatever the first line is, what stands behind the second line's octets before a name is left
  pub behind : (h w rest : List ℕ) → ((k : ℕ) → k < length h → get_or h k 0 ≢ newline_code) → length w ≡ before_name
      → drop (name_place (h ++ newline_code ∷ w ++ rest)) (h ++ newline_code ∷ w ++ rest) ≡ rest
