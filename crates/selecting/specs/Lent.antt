-- What a lent configuration text is refused for, and what is read of it.
use Rattle.std.specs.Prelude.{ℕ, not, ◌||◌, List, [], ◌∷◌, ◌≡◌, Option, Some, is_some, Result, IfOk}
use Rattle.octets.specs.Refusal as Octets
use Rattle.octets.specs.Refusal.{refusal, ◌when◌}
use Rattle.config.specs.Settings.{Within, config_of, settings_in}
use Rattle.config.specs.declared.Config.{Config}
use Rattle.entry.specs.declared.field.Preferred.{Preferred}
use Rattle.place.specs.declared.Facts.{Facts}
use Rattle.refusal.specs.Numbers.{number_in}
use Rattle.refusal.specs.declared.Refusal.{Refusal}
use Rattle.rules.specs.Refusals.{is_home_abroad, is_long}

-- of a text: 8 too long, or abroad with the text's home MCC; 9 not well formed
unfoldable pub text_refusals : List ℕ → Option Facts → List Octets.Refusal
text_refusals text f = (8 when (is_long text || is_home_abroad (config_of text) f)) ∷ (9 when not (is_some (config_of text))) ∷ []

-- what was read of a text: its refusal, or what it says; a name in it lies within the text, and its entries within the lists
pub record LentIs (r : Result Config Refusal) (ps bs : List Preferred) (text : List ℕ) (f : Option Facts) : Type 0 where
  pub refusal_is : number_in r ≡ refusal (text_refusals text f)
  pub settings_are : IfOk r (λ c. config_of text ≡ Some (settings_in ps bs c))
  pub within : IfOk r (Within text ps bs)
