-- A configuration text as a whole, from its parts.
use Rattle.std.specs.Prelude.{Option, None, Some}
use Rattle.std.proofs.Common.{◌≡◌, ℕ, ◌+◌, List, length, sym, ap, ◌∙◌, arith}
use Rattle.network.specs.declared.Plmn.{Plmn}
use Rattle.entry.specs.Entry.{before_name}
use Rattle.entry.specs.declared.field.Preferred.{Preferred}
use Rattle.fields.specs.declared.field.Field.{Field}
use Rattle.entries.specs.Branch.{HomeIs}
use Rattle.entries.proofs.Texts.{at_end, not_end}
use Rattle.config.specs.Lines.{entries_from, line_end}
use Rattle.config.specs.Settings.{after_node, as_home, first_node, is_end, settle, settings_in, with_home, from_home, name_place, config_of}
use Rattle.config.specs.declared.Node.{Node}
use Rattle.config.specs.declared.Kind.TheVariants as Kind
use Rattle.parser.specs.Section.{NodeRead, SectionIs}
use Rattle.parser.specs.declared.list.Section.{Section}

-- behind `home` the node and the two lists decide
pub home_settled : (l : List ℕ) (r : Field Plmn) → HomeIs l (Some r) → (n : Field (Option Node)) → NodeRead l r.next n → settle r.value n.value (entries_from l n.next) ≡ config_of l
unfolding config_of from_home with_home as_home name_place
home_settled l r (h, k, within) n read =
    let place : r.next + before_name ≡ line_end l 0 + 1 + before_name = omega arith in
    sym (rw h (ap (λ (m : ℕ). settle r.value (first_node m (entries_from l r.next)) (after_node m (entries_from l r.next))) (sym place) ∙ rw (read.node_is, read.rest_is)))

module _ (l : List ℕ) (h : Plmn) (n : Option Node) (s : ℕ) (ps bs : List Preferred) where
  pub bad_plmns : SectionIs Kind.Plmn l s ps None → None ≡ settle h n (entries_from l s)
  unfolding settle
  bad_plmns e = sym (rw e)

  module _ (P : Section) (p : SectionIs Kind.Plmn l s ps (Some P)) where
    pub bad_bars : SectionIs Kind.Bar l P.next bs None → None ≡ settle h n (entries_from l s)
    unfolding settle
    bad_bars e = sym (rw (p.accepts, p.rest_is, e))

    module _ (Q : Section) (q : SectionIs Kind.Bar l P.next bs (Some Q)) where
      pub more_behind : (Q.next ≡ length l → ⊥) → None ≡ settle h n (entries_from l s)
      unfolding settle
      more_behind h = sym (rw (p.accepts, p.rest_is, q.accepts, q.rest_is, not_end l Q.next q.next_within h))

      pub finished : Q.next ≡ length l → Some (settings_in ps bs (record { home = h; node = n; plmn_count = P.count; bar_count = Q.count })) ≡ settle h n (entries_from l s)
      unfolding settle settings_in is_end
      finished e = sym (rw (p.accepts, p.rest_is, q.accepts, q.rest_is, at_end l Q.next e, p.list_is, q.list_is))
