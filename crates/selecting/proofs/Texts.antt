-- What is read of a lent text, and what that says of the refusal of the event that lends it.
use Rattle.std.specs.Prelude.{Option, None, Some, is_some, Result, Ok, Err, IsErrAnd}
use Prim.Native.Nat.{ℕ}
use mathlib.Core.Bool.{Bool, true, false, cond, not, ◌||◌, ◌&&◌, false≢true}
use mathlib.Core.List.{List, []}
use mathlib.Core.Path.{◌≡◌, refl, sym, ap, ◌∙◌}
use native.Mathlib.Omega.{arith}
use Rattle.std.proofs.lemmas.Result.{err_from_is_err_and}
use Rattle.octets.specs.Refusal.{refusal}
use Rattle.octets.proofs.Refusals.{refusal_ahead, refusal_step}
use Rattle.octets.proofs.Search.{or_left, or_right}
use Rattle.config.specs.Settings.{Settings, Within, config_of, settings_in}
use Rattle.config.specs.declared.Config.{Config}
use Rattle.entry.specs.declared.field.Preferred.{Preferred}
use Rattle.place.specs.declared.Facts.{Facts}
use Rattle.phase.specs.Awaited.{awaited_in}
use Rattle.phase.specs.Stage as Stage
use Rattle.phase.specs.Stage.{is_in}
use Rattle.phase.specs.declared.Phase.{Phase}
use Rattle.record.specs.Line.{Line}
use Rattle.refusal.proofs.Numbers.{some_number}
use Rattle.refusal.specs.Numbers.{number_of}
use Rattle.refusal.specs.declared.Refusal.{Refusal}
use Rattle.rules.specs.Call.{Event}
use Rattle.rules.specs.Phases.{facts_in}
use Rattle.rules.specs.Refusals.{is_home_abroad, is_long, is_malformed, is_out_of_range, refusals_of}
use Rattle.selecting.specs.Lent.{LentIs, text_refusals}
use Rattle.selecting.specs.Selects.{Selects}
use Rattle.selecting.specs.declared.Selected.{Selected}

-- what was read of a text
module _ (text : List ℕ) (f : Option Facts) (ps bs : List Preferred) where
  -- one that is too long
  pub too_long : is_long text ≡ true → LentIs (Err Refusal.Range) ps bs text f
  unfolding text_refusals refusal
  too_long long = record { refusal_is = rw long; settings_are = tt; within = tt }

  module _ (short : is_long text ≡ false) where
    -- one that is not well formed
    pub ill_formed : config_of text ≡ None → LentIs (Err Refusal.Malformed) ps bs text f
    unfolding text_refusals refusal is_home_abroad
    ill_formed ill = record { refusal_is = rw (short, ill); settings_are = tt; within = tt }

    module _ (c : Config) (says : config_of text ≡ Some (settings_in ps bs c)) where
      -- one with the home MCC of the place
      pub home_mcc : is_home_abroad (Some (settings_in ps bs c)) f ≡ true → LentIs (Err Refusal.Range) ps bs text f
      unfolding text_refusals refusal
      home_mcc abroad = record { refusal_is = rw (short, says, abroad); settings_are = tt; within = tt }

      -- one that fits
      pub fitting : is_home_abroad (Some (settings_in ps bs c)) f ≡ false → Within text ps bs c → LentIs (Ok c) ps bs text f
      unfolding text_refusals refusal
      fitting abroad within = record { refusal_is = rw (short, says, abroad); settings_are = says; within = within }

-- the test against the home MCC is made where the country answer is awaited
pub where_awaited : (p : Phase) (s : Option Settings) → is_in Stage.country p && is_home_abroad s (facts_in p) ≡ is_home_abroad s (awaited_in p)
unfolding is_home_abroad is_in facts_in awaited_in
where_awaited Phase.Idle None = refl
where_awaited Phase.Idle (Some s) = refl
where_awaited (Phase.Country f) s = refl
where_awaited (Phase.Name f) None = refl
where_awaited (Phase.Name f) (Some s) = refl
where_awaited (Phase.Chosen a) None = refl
where_awaited (Phase.Chosen a) (Some s) = refl
where_awaited (Phase.Init a) None = refl
where_awaited (Phase.Init a) (Some s) = refl
where_awaited (Phase.Auth a) None = refl
where_awaited (Phase.Auth a) (Some s) = refl
where_awaited (Phase.Eap a t) None = refl
where_awaited (Phase.Eap a t) (Some s) = refl
where_awaited (Phase.Sure a) None = refl
where_awaited (Phase.Sure a) (Some s) = refl
where_awaited (Phase.Live a) None = refl
where_awaited (Phase.Live a) (Some s) = refl

given_8 : (b : Bool) (rest : ℕ) → b ≡ true → cond b 8 rest ≡ 8
given_8 b rest q = rw q

-- one of the first two tests is passed
either : (a b l h : Bool) → a || b ≡ true → a || (b || l || h) ≡ true
either true b l h q = refl
either false true l h q = refl
either false false l h q = absurd (false≢true q)

-- an event whose first test of its own is passed is refused by 8
pub by_own : (e : Event) (x : Line) (out own l h : Bool) → is_out_of_range e x ≡ own || l || h → out || own ≡ true → refusal (refusals_of e out x) ≡ 8
unfolding refusals_of refusal
by_own e x out own l h outside q = given_8 (out || is_out_of_range e x) _ (ap (λ (b : Bool). out || b) outside ∙ either out own l h q)

-- an event has passed the tests of 8 and 9
pub record Passed (e : Event) (out : Bool) (x : Line) : Type 0 where
  pub timely : out ≡ false
  pub fit : is_out_of_range e x ≡ false
  pub formed : is_malformed e ≡ false

-- an event that is refused by 8 for a test of its own and for its text, and by 9 for its text
module _ (e : Event) (x : Line) (out own : Bool) (text : List ℕ) (f : Option Facts)
    (outside : is_out_of_range e x ≡ own || is_long text || is_home_abroad (config_of text) f) (ill : is_malformed e ≡ not (is_some (config_of text)))
    (passed : out || own ≡ false) (ps bs : List Preferred) where
  -- it is refused for its text
  pub by_text : (r : Refusal) → LentIs (Err r) ps bs text f → refusal (refusals_of e out x) ≡ number_of r
  unfolding refusals_of text_refusals
  by_text r reads =
      rw (outside, ill, or_left out own passed, or_right out own passed)
      (refusal_ahead (text_refusals text f) _ (λ z. let some = some_number r in let none = reads.refusal_is ∙ z in absurd (omega arith)) ∙ sym reads.refusal_is)

  -- or for neither
  pub passes : (c : Config) → LentIs (Ok c) ps bs text f → Passed e out x
  unfolding text_refusals
  passes c reads =
      let by_8 = refusal_step 7 (is_long text || is_home_abroad (config_of text) f) _ (sym reads.refusal_is) in
      let by_9 = refusal_step 8 (not (is_some (config_of text))) [] by_8.1 in
      record {
        timely = or_left out own passed;
        fit = outside ∙ rw (or_right out own passed, by_8.0);
        formed = ill ∙ by_9.0;
      }

-- a `?` returns the refusal that it meets
pub passed_on : {A : Type 0} (r : Result A Refusal) (k : Refusal) → IsErrAnd r (λ y. y ≡ k) → r ≡ Err k
passed_on r k h = let p = err_from_is_err_and r h in p.1 ∙ ap Err p.2

-- a refusal of the event is one of the choice
pub refuses : (e : Event) (out : Bool) (x : Line) (text : List ℕ) (r : Result Selected Refusal) (k : Refusal) → r ≡ Err k → refusal (refusals_of e out x) ≡ number_of k → Selects r e out x text
refuses e out x text r k is number = rw is (record { refusal_is = number; outcome_is = tt; within = tt })
