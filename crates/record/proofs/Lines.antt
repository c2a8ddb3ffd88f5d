-- A line from its parts.
use Prim.Native.Nat.{ℕ, ◌≤◌}
use mathlib.Core.List.{List}
use mathlib.Core.Path.{◌≡◌}
use native.Mathlib.Omega.{arith}
use Rattle.octets.specs.Digits.{field}
use Rattle.address.specs.declared.Hold.{Hold}
use Rattle.children.specs.Children.{children_from}
use Rattle.children.specs.declared.Child.{Child}
use Rattle.holds.specs.Holds.{holds_from}
use Rattle.phase.specs.Phase.{phase_from}
use Rattle.phase.specs.declared.Phase.{Phase}
use Rattle.record.specs.Line.{Line}
use Rattle.record.specs.Octets.{line_from, children_place}

module _ (l : List ℕ) {t m n : ℕ} {p : Phase} {hs : List Hold} {cs : List Child} where
  pub line_read : t ≡ field l 1 4 → p ≡ phase_from l 5 → m ≡ field l 25 1 → n ≡ field l 26 1 → hs ≡ holds_from l 27 m → cs ≡ children_from l children_place n
      → ◌≡◌ {A = Line} (record { time = t; phase = p; holds = hs; children = cs }) (line_from l)
  unfolding line_from
  line_read e₁ e₂ e₃ e₄ e₅ e₆ = rw (e₁, e₂, e₅, e₆, e₃, e₄)

pub at_most : {x y : ℕ} → x ≡ y → y ≤ 8 → x ≤ 8
at_most e h = omega arith
