-- What the choice among the pods that listings showed tells of the pods.
use Rattle.std.proofs.Common.{arith, ◌≡◌, ℕ, Bool, true, false, cond, bytes_eq, take, length, Option, Some, None, option_map, is_some, List, filter, Result, Ok, Err, IfOk, IsOkAnd, refl, sym, ap, subst, ◌∙◌}
use Rattle.std.specs.List.Sorted.{IsStrictlySortedBy}
use Rattle.std.specs.Ordering.{nat_cmp}
use Rattle.std.specs.Cmp.Lexicographic.{slice_cmp}
use Rattle.plain_laws.proofs.Fronts.{taken_past}
use Rattle.plain_laws.proofs.Texts.{same_bytes, same_text}
use Rattle.dir_model.specs.declared.pod.PodId.{PodId}
use Rattle.dir_model.specs.Pods.{pod_text, pod_of_text, is_pod_text, bytes_read}
use Rattle.dir_model.specs.Listings.{has_name}
use Rattle.dir_model.specs.Trace.{state_after}
use Rattle.dir_model.proofs.PodTexts.{passes_text}
use Rattle.dir_rules.specs.Marks.{begins}
use Rattle.dir_trait.specs.DirCalls.{DirAt, ExtendsBy}
use Rattle.phase_read.specs.declared.found.LookError.{LookError}
use Rattle.phase_read.specs.declared.found.LookError.TheVariants.{NoPod, Ambiguous, DirFault, NoMemory}
use Rattle.pod_lookup.specs.Choice.{is_meant, the_only, choice, whole_or, IsLookupAnswer, IfAmbiguous, NamesMeant}
use Rattle.pod_lookup.specs.Looks.{lists_stages}
use Rattle.pod_lookup.specs.Pods.{is_pod_name, pod_names, pods_standing, FindsPodsBetween}
use Rattle.pod_lookup.specs.Resolved.{IsNoneOf, Existed, IsShown, AreTheLeast, FindsTheOne, IsSequential}
use Rattle.pod_lookup.proofs.Names.{meant, IsMeant, choice_meant, none_meant, one_meant, several_meant, just_one}
use Rattle.pod_lookup.proofs.Shown.{listings_tell_gone}
use Rattle.pod_lookup.proofs.Existed.{shown_in_stages, shown_existed, never_gone}
use Rattle.pod_lookup.proofs.Still.{finds_standing}
use Rattle.pod_lookup.proofs.QuietLook.{listings_keep}

module _ (word : List ℕ) (old new : DirAt) (pods : List PodId) (f : FindsPodsBetween old new pods) where
  named : choice word pods ≡ the_only (meant word f.names)
  named = ap (λ (ps : List PodId). the_only (filter (is_meant word) ps)) f.are

  pub finds_none : Err NoPod ≡ choice word pods → IsNoneOf word old new
  finds_none is conforming name pod so = listings_tell_gone new.trace conforming old.process old.trace f.names name f.listed (none_meant word f.names name pod so (sym (is ∙ named)))

  was_shown : (pod : PodId) → IsMeant word f.names (pod_text pod.bytes) → IsShown word f.names old new pod
  was_shown pod m =
      let shown = shown_in_stages old.process old.trace new.trace (pod_text pod.bytes) f.names f.listed m.named in
      record { meant = m.so; among = m.named; shown = shown; existed = λ conforming. shown_existed old.process old.trace new.trace (pod_text pod.bytes) shown conforming }

  pub finds_one : (pod : PodId) → Ok pod ≡ choice word pods → Existed pod old new
  finds_one pod is = (was_shown pod (one_meant word f.names pod (sym (is ∙ named)))).existed

  pub finds_several : (a b : PodId) → Err (Ambiguous a b) ≡ choice word pods → AreTheLeast word a b old new
  finds_several a b is =
      let two = several_meant word f.names a b (sym (is ∙ named)) in
      record {
        names = f.names;
        listed = f.listed;
        first = was_shown a two.first;
        second = was_shown b two.second;
        rise = two.rise;
        least = λ name pod so there less. two.least name (record { named = there; pod = pod; so = so }) less;
      }

  pub finds_the_one : FindsTheOne word (choice word pods) old new
  finds_the_one conforming name pod so each = subst (λ (r : Result PodId LookError). IsOkAnd r (λ p. pod_text p.bytes ≡ name)) (sym named)
      (just_one word f.names name (record { named = there; pod = pod; so = so })
      (λ other m.
      let at = shown_existed old.process old.trace new.trace other (shown_in_stages old.process old.trace new.trace other f.names f.listed m.named) conforming in
      (each at.later at.rest at.ends).alone other m.pod m.so at.holds))
    where
      there : has_name f.names name ≡ true
      there = by (has_name f.names name) refl
        where
          by : (b : Bool) → has_name f.names name ≡ b → b ≡ true
          by true is = refl
          by false is = absurd (never_gone old.process old.trace new.trace name (λ later rest ends. (each later rest ends).there) (listings_tell_gone new.trace conforming old.process old.trace f.names name f.listed is))

  pub finds_quietly : pod_of_text word ≡ None → ExtendsBy lists_stages old new → IsSequential word (choice word pods) old new
  finds_quietly none ext quiet idle =
      ap (choice word) (f.are ∙ finds_standing old new f.names f.listed (listings_keep ext quiet idle))
      ∙ sym (ap (λ (o : Option PodId). whole_or o (choice word (pods_standing (state_after old.trace).namespace))) none)

-- the answer is the choice, where it is one
abbrev pub Chosen : Result PodId LookError → List ℕ → List PodId → Type 0
Chosen r word pods = IsLookupAnswer r → r ≡ choice word pods

pub chosen_meant : (word : List ℕ) (pods : List PodId) (r : Result PodId LookError) → IsStrictlySortedBy (slice_cmp nat_cmp) (pod_names pods) → Chosen r word pods → NamesMeant word r
chosen_meant word pods r rise chosen = by r chosen
  where
    meant_one : (s : Result PodId LookError) → s ≡ choice word pods → NamesMeant word s
    meant_one s is = subst (NamesMeant word) (sym is) (choice_meant word pods rise)

    by : (s : Result PodId LookError) → Chosen s word pods → NamesMeant word s
    by (Ok pod) is = meant_one (Ok pod) (is tt)
    by (Err (Ambiguous a b)) is = meant_one (Err (Ambiguous a b)) (is tt)
    by (Err NoPod) is = tt
    by (Err DirFault) is = tt
    by (Err NoMemory) is = tt

pub none_of : (observed : Bool) (word : List ℕ) (old new : DirAt) (pods : List PodId) (r : Result PodId LookError) → (observed ≡ true → FindsPodsBetween old new pods) → Chosen r word pods → r ≡ Err NoPod → observed ≡ true → IsNoneOf word old new
none_of observed word old new pods r f chosen is t = finds_none word old new pods (f t) (sym is ∙ chosen (subst IsLookupAnswer (sym is) tt))

pub existed : (observed : Bool) (word : List ℕ) (old new : DirAt) (pods : List PodId) (r : Result PodId LookError) → (observed ≡ true → FindsPodsBetween old new pods) → Chosen r word pods → IfOk r (λ pod. observed ≡ true → Existed pod old new)
existed observed word old new pods (Ok pod) f chosen = λ t. finds_one word old new pods (f t) pod (chosen tt)
existed observed word old new pods (Err e) f chosen = tt

pub least_two : (observed : Bool) (word : List ℕ) (old new : DirAt) (pods : List PodId) (r : Result PodId LookError) → (observed ≡ true → FindsPodsBetween old new pods) → Chosen r word pods → IfAmbiguous r (λ a b. observed ≡ true → AreTheLeast word a b old new)
least_two observed word old new pods (Err (Ambiguous a b)) f chosen = λ t. finds_several word old new pods (f t) a b (chosen tt)
least_two observed word old new pods (Err NoPod) f chosen = tt
least_two observed word old new pods (Err DirFault) f chosen = tt
least_two observed word old new pods (Err NoMemory) f chosen = tt
least_two observed word old new pods (Ok pod) f chosen = tt

-- a whole uuid begins that pod's name alone
pub whole_begins : (word name : List ℕ) → length word ≡ 36 → is_pod_name name ≡ true → begins word name ≡ true → name ≡ word
whole_begins word name long pod so =
    let same : length word ≡ length name = long ∙ sym (text_long (is_pod_text name) refl pod) in
    sym (taken_past (length name) name (omega arith)) ∙ (ap (λ n. take n name) (sym same) ∙ sym (same_text word (take (length word) name) so))
  where
    text_long : (b : Bool) → is_pod_text name ≡ b → is_some (cond b (option_map (λ bytes. let p : PodId = record { bytes = bytes } in p) (bytes_read name)) None) ≡ true → length name ≡ 36
    text_long true text is = (passes_text name text).0
    text_long false text is = cc

pub whole_meant : (word : List ℕ) (pod : PodId) → pod_text pod.bytes ≡ word → NamesMeant word (Ok pod)
whole_meant word pod text = ap (begins word) text ∙ (ap (λ l. bytes_eq word l) (taken_past (length word) word (omega arith)) ∙ same_bytes word)

pub whole_found : (word : List ℕ) (old new : DirAt) (pod : PodId) → length word ≡ 36 → pod_text pod.bytes ≡ word → FindsTheOne word (Ok pod) old new
whole_found word old new pod long text conforming name is so each = text ∙ sym (whole_begins word name long is so)

pub whole_quiet : (word : List ℕ) (old new : DirAt) (pod : PodId) → Some pod ≡ pod_of_text word → IsSequential word (Ok pod) old new
whole_quiet word old new pod is quiet idle = ap (λ (o : Option PodId). whole_or o (choice word (pods_standing (state_after old.trace).namespace))) is
