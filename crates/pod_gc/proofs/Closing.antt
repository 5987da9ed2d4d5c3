-- A lock of the pod is given up: what was known besides stays.
use Rattle.std.proofs.Common.{◌≡◌, true, false, not, ◌&&◌, ◌||◌, cond, List, ◌∷◌, map, filter, ap, ◌∙◌}
use Rattle.std.specs.List.{list_any}
use Rattle.plain_laws.proofs.Lists.{none_of_filter}
use Rattle.dir_model.specs.declared.area.Area.TheVariants.{Embryo}
use Rattle.dir_model.specs.declared.request.Request.TheVariants.{Close}
use Rattle.dir_model.specs.declared.request.Reply.TheVariants.{Done}
use Rattle.dir_model.specs.Pods.{pod_text}
use Rattle.dir_model.proofs.Lists.{same_self}
use Rattle.dir_rules.specs.declared.standing.Held.{Held}
use Rattle.dir_rules.specs.declared.seen.Seen.{Seen}
use Rattle.dir_rules.specs.Standing.{is_handle_held, is_gate_shared, gives_up, uncovered_by_close, intends, holds_own}
use Rattle.dir_rules.specs.Conforms.{seen_replied}
use Rattle.dir_rules.proofs.Looks.{Fresh, none_given, none_dropped}
use Rattle.pod_locks.specs.ClaimHolding.{is_on_folder}
use Rattle.pod_locks.specs.Holding.{is_in_garbage, IsBare, KeepsHoldings}
use Rattle.pod_locks.proofs.ClaimSeen.{map_gates, recovered}

module _ (x : Held) (base known : Seen) (fresh : Fresh x.handle base.standing.holdings) (apart : list_any is_on_folder base.standing.holdings ≡ false)
    (plain : is_gate_shared Embryo x ≡ false) (held : known.standing.holdings ≡ x ∷ base.standing.holdings) where
  abbrev Hs : List Held
  Hs = base.standing.holdings

  abbrev Given : Seen
  Given = seen_replied known (Close x.handle) Done

  dropped : filter (λ g. not (is_handle_held x.handle g)) (x ∷ Hs) ≡ Hs
  dropped = ap (λ b. cond (not b) (x ∷ filter (λ g. not (is_handle_held x.handle g)) Hs) (filter (λ g. not (is_handle_held x.handle g)) Hs)) (same_self x.handle.number) ∙ none_dropped x.handle Hs fresh

  pub given_holdings : Given.standing.holdings ≡ Hs
  given_holdings =
      ap (λ (l : List Held). map (uncovered_by_close x.handle l) (filter (λ g. not (is_handle_held x.handle g)) l)) held
      ∙ (ap (λ (l : List Held). map (uncovered_by_close x.handle (x ∷ Hs)) l) dropped
      ∙ map_gates (uncovered_by_close x.handle (x ∷ Hs)) (recovered x.handle (x ∷ Hs)) Hs apart)

  no_gate : gives_up (is_gate_shared Embryo) x.handle known.standing.holdings ≡ false
  no_gate =
      ap (λ (l : List Held). gives_up (is_gate_shared Embryo) x.handle l) held
      ∙ (ap (λ b. (b && is_handle_held x.handle x) || gives_up (is_gate_shared Embryo) x.handle Hs) plain ∙ none_given (is_gate_shared Embryo) x.handle Hs fresh)

  pub given_kept : Given.kept ≡ known.kept
  given_kept = ap (λ b. (not ((b && known.standing.embryo_under_lock) && intends (λ i. holds_own (pod_text i.draw.bytes) known.standing) known.standing.intent) && true) && known.kept) no_gate

  -- and what was known of the garbage places
  pub given_keeps : known.standing.intent ≡ base.standing.intent → known.kept ≡ base.kept → IsBare known → KeepsHoldings base Given
  given_keeps intent kept bare = record {
    intent = intent;
    holdings = given_holdings;
    kept = given_kept ∙ kept;
    bare = none_of_filter is_in_garbage _ known.items bare;
  }
