-- The lines of pods, one after the other.
use Rattle.std.proofs.Common.{◌≡◌, ◌||◌, ℕ, Bool, true, false, Option, Some, None, List, [], ◌∷◌, ◌++◌, map, refl, sym, ap, subst, ◌∙◌, append_assoc, append-nil}
use Rattle.std.specs.List.{list_any}
use Rattle.std.specs.List.Sorted.{IsStrictlySortedBy}
use Rattle.std.specs.Ordering.{nat_cmp}
use Rattle.std.specs.Cmp.Lexicographic.{slice_cmp}
use Rattle.plain_laws.proofs.Lists.{any_left, any_right, map_both}
use Rattle.dir_model.specs.declared.area.Area.{Area}
use Rattle.dir_model.specs.declared.event.Event.{Event}
use Rattle.dir_model.specs.declared.pod.PodId.{PodId}
use Rattle.dir_model.specs.declared.request.Request.{Request}
use Rattle.dir_model.specs.declared.request.Request.TheVariants.{ListArea}
use Rattle.dir_model.specs.declared.request.Reply.TheVariants.{Names}
use Rattle.dir_model.specs.Areas.{rank}
use Rattle.dir_model.specs.Calls.{Extends}
use Rattle.dir_model.specs.Pods.{pod_of_text}
use Rattle.dir_model.proofs.Chains.{nothing_yet, extends_more, extends_wider}
use Rattle.dir_model.proofs.Lists.{all_both, all_weaker, same_self}
use Rattle.dir_rules.specs.declared.seen.Seen.{Seen}
use Rattle.dir_trait.specs.DirCalls.{DirAt, ListCall}
use Rattle.dir_trait.proofs.ListCalls.{list_extends}
use Rattle.dir_trait.specs.Effects.{Given}
use Rattle.dir_files.specs.Listed.{ShowsAreaBetween}
use Rattle.pod_locks.specs.Holding.{KeepsHoldings, KeepsReady}
use Rattle.pod_gc.specs.declared.ages.Times.{Times}
use Rattle.pod_gc.specs.declared.line.Deed.{Deed}
use Rattle.pod_gc.specs.declared.line.GcLine.{GcLine}
use Rattle.pod_gc.specs.Requests.{deals_with_pod}
use Rattle.pod_gc.specs.Deeds.{LeavesToAnother, Dealt}
use Rattle.pod_gc.specs.Sweeping.{MayPassPods}
use Rattle.pod_gc.specs.Told.{and_pod, pods_of, deals_with_pods, Knew, IsLineOfTurn, TellsEachPod, AddsTold, AddsShown}
use Rattle.pod_gc.proofs.InTurn.{pass_kept}

-- names in order

pods_append : (xs ys : List (List ℕ)) → pods_of (xs ++ ys) ≡ pods_of xs ++ pods_of ys
pods_append [] ys = refl
pods_append (x ∷ xs) ys = by (pod_of_text x) (pods_append xs ys)
  where
    by : (o : Option PodId) → pods_of (xs ++ ys) ≡ pods_of xs ++ pods_of ys → and_pod o (pods_of (xs ++ ys)) ≡ and_pod o (pods_of xs) ++ pods_of ys
    by None rest = rest
    by (Some pod) rest = ap (λ (l : List PodId). pod ∷ l) rest

-- what was asked for is about one of them

module _ (now : ℕ) (here : Area) where
  deals_left : (xs ys : List (List ℕ)) (r : Request) → deals_with_pods now here xs r ≡ true → deals_with_pods now here (xs ++ ys) r ≡ true
  deals_left xs ys r is = let t : PodId → Bool = λ pod. deals_with_pod pod now here r in ap (list_any t) (pods_append xs ys) ∙ any_left t (pods_of xs) (pods_of ys) is

  deals_right : (xs ys : List (List ℕ)) (r : Request) → deals_with_pods now here ys r ≡ true → deals_with_pods now here (xs ++ ys) r ≡ true
  deals_right xs ys r is = let t : PodId → Bool = λ pod. deals_with_pod pod now here r in ap (list_any t) (pods_append xs ys) ∙ any_right t (pods_of xs) (pods_of ys) is

  pub some_among : (before rest : List (List ℕ)) (name : List ℕ) (r : Request) → deals_with_pods now here (name ∷ []) r ≡ true → deals_with_pods now here ((before ++ name ∷ []) ++ rest) r ≡ true
  some_among before rest name r is = deals_left (before ++ name ∷ []) rest r (deals_right before (name ∷ []) r is)

  pub alone_pod : (name : List ℕ) (pod : PodId) → pod_of_text name ≡ Some pod → (r : Request) → deals_with_pod pod now here r ≡ true → deals_with_pods now here (name ∷ []) r ≡ true
  alone_pod name pod is r deals = ap (λ (o : Option PodId). list_any (λ (p : PodId). deals_with_pod p now here r) (and_pod o [])) is ∙ ap (λ b. b || false) deals

  deals_both : {me : ℕ} {a b c : List Event} (xs ys : List (List ℕ)) → Extends (deals_with_pods now here xs) me a b → Extends (deals_with_pods now here ys) me b c → Extends (deals_with_pods now here (xs ++ ys)) me a c
  deals_both {me} {a} {b} {c} xs ys ab bc = extends_more (deals_with_pods now here (xs ++ ys)) me a b c (extends_wider (deals_left xs ys) ab) (extends_wider (deals_right xs ys) bc)

-- what is told to one who knows less

module _ {CanA CanB : Type 0} (f : CanA → CanB) {me other : ℕ} (same : other ≡ me) (times : Times) (here : Area) (names : List (List ℕ)) (old new : List Event) where
  told_as : (line : GcLine) → IsLineOfTurn CanB times here names line other old new → IsLineOfTurn CanA times here names line me old new
  told_as line y =
      let x = subst (λ (p : ℕ). IsLineOfTurn CanB times here names line p old new) same y in
      record {
        shown = x.shown;
        pod_is = x.pod_is;
        place_is = x.place_is;
        earlier = x.earlier;
        name = x.name;
        later = x.later;
        names_are = x.names_are;
        name_is = x.name_is;
        from = x.from;
        upto = x.upto;
        first = x.first;
        dealt = x.dealt;
        last = x.last;
        another = λ can. x.another (f can);
      }

  pub tells_as : (lines : List GcLine) → TellsEachPod CanB times here names lines other old new → TellsEachPod CanA times here names lines me old new
  tells_as lines x = record { pods_are = x.pods_are; each = all_weaker _ _ told_as lines x.each; only = subst (λ (p : ℕ). Extends (deals_with_pods times.now here names) p old new) same x.only }

-- some pods, and then others

module _ {Can : Type 0} {me : ℕ} {a b c : List Event} (times : Times) (here : Area) (xs ys : List (List ℕ)) where
  told_first : Extends (deals_with_pods times.now here ys) me b c → (line : GcLine) → IsLineOfTurn Can times here xs line me a b → IsLineOfTurn Can times here (xs ++ ys) line me a c
  told_first rest line x = record {
    shown = x.shown;
    pod_is = x.pod_is;
    place_is = x.place_is;
    earlier = x.earlier;
    name = x.name;
    later = x.later ++ ys;
    names_are = ap (λ (l : List (List ℕ)). l ++ ys) x.names_are ∙ append_assoc x.earlier (x.name ∷ x.later) ys;
    name_is = x.name_is;
    from = x.from;
    upto = x.upto;
    first = x.first;
    dealt = x.dealt;
    last = deals_both times.now here x.later ys x.last rest;
    another = x.another;
  }

  told_then : Extends (deals_with_pods times.now here xs) me a b → (line : GcLine) → IsLineOfTurn Can times here ys line me b c → IsLineOfTurn Can times here (xs ++ ys) line me a c
  told_then front line x = record {
    shown = x.shown;
    pod_is = x.pod_is;
    place_is = x.place_is;
    earlier = xs ++ x.earlier;
    name = x.name;
    later = x.later;
    names_are = ap (λ (l : List (List ℕ)). xs ++ l) x.names_are ∙ sym (append_assoc xs x.earlier (x.name ∷ x.later));
    name_is = x.name_is;
    from = x.from;
    upto = x.upto;
    first = deals_both times.now here xs x.earlier front x.first;
    dealt = x.dealt;
    last = x.last;
    another = x.another;
  }

  tells_both : (ls ms : List GcLine) → TellsEachPod Can times here xs ls me a b → TellsEachPod Can times here ys ms me b c → TellsEachPod Can times here (xs ++ ys) (ls ++ ms) me a c
  tells_both ls ms x y = record {
    pods_are = map_both (λ (l : GcLine). l.pod) ls ms
        ∙ (ap (λ (l : List (Option PodId)). l ++ map (λ (l : GcLine). l.pod) ms) x.pods_are
        ∙ (ap (λ (l : List (Option PodId)). map (λ (p : PodId). Some p) (pods_of xs) ++ l) y.pods_are
        ∙ (sym (map_both (λ (p : PodId). Some p) (pods_of xs) (pods_of ys))
        ∙ ap (λ (l : List PodId). map (λ (p : PodId). Some p) l) (sym (pods_append xs ys)))));
    each = all_both _ ls ms (all_weaker _ _ (told_first y.only) ls x.each) (all_weaker _ _ (told_then x.only) ms y.each);
    only = deals_both times.now here xs ys x.only y.only;
  }

-- what a process knew of itself it knows on

pub knew_on : {May : Seen → Type 0} {a b : DirAt} → ((s z : Seen) → KeepsHoldings s z → May s → May z) → Given May a (λ s. KeepsReady s b) → Knew May a → Knew May b
knew_on {May} {a} {b} keep ready can = let x = ready can.0 can.1 can.2 in (x.known, x.knows, keep can.0 x.known x.keeps can.2)

-- no line, or more

pub adds_none : (times : Times) (here : Area) (lines : List GcLine) (d : DirAt) → AddsTold times here [] d d lines lines
adds_none times here lines d = ([], sym (append-nil lines), record { pods_are = refl; each = tt; only = nothing_yet })

pub adds_more : (a b c : DirAt) (times : Times) (here : Area) (xs ys : List (List ℕ)) (before mid after : List GcLine) → b.process ≡ a.process
    → Given (MayPassPods here times.now times.expire) a (λ s. KeepsReady s b) → AddsTold times here xs a b before mid → AddsTold times here ys b c mid after → AddsTold times here (xs ++ ys) a c before after
adds_more a b c times here xs ys before mid after same ready x y =
    let second : TellsEachPod (Knew (MayPassPods here times.now times.expire) a) times here ys y.0 a.process b.trace c.trace = tells_as (knew_on (λ s z k m. pass_kept k m) ready) same times here ys b.trace c.trace y.0 y.2 in
    (x.0 ++ y.0, y.1 ∙ (ap (λ (l : List GcLine). l ++ y.0) x.1 ∙ append_assoc before x.0 y.0), tells_both times here xs ys x.0 y.0 x.2 second)

-- the line of one name

pub adds_pod : (old new : DirAt) (times : Times) (here : Area) (name : List ℕ) (pod : PodId) (deed : Deed) (before after : List GcLine) → pod_of_text name ≡ Some pod
    → after ≡ before ++ record { place = here; pod = Some pod; deed = deed } ∷ [] → Extends (deals_with_pod pod times.now here) old.process old.trace new.trace → Dealt times pod here deed old.process old.trace new.trace
    → Given (MayPassPods here times.now times.expire) old (λ s. LeavesToAnother pod here deed old new) → AddsTold times here (name ∷ []) old new before after
adds_pod old new times here name pod deed before after is adds turn dealt busy = (
  record { place = here; pod = Some pod; deed = deed } ∷ [],
  adds,
  record {
    pods_are = ap (λ (o : Option PodId). map (λ (p : PodId). Some p) (and_pod o [])) (sym is);
    each = (
      record {
        shown = pod;
        pod_is = refl;
        place_is = refl;
        earlier = [];
        name = name;
        later = [];
        names_are = refl;
        name_is = is;
        from = old.trace;
        upto = new.trace;
        first = nothing_yet;
        dealt = dealt;
        last = nothing_yet;
        another = λ can. busy can.0 can.1 can.2;
      },
      tt,
    );
    only = extends_wider (alone_pod times.now here name pod is) turn;
  },
)

pub adds_other : (times : Times) (here : Area) (name : List ℕ) (lines : List GcLine) (d : DirAt) → pod_of_text name ≡ None → AddsTold times here (name ∷ []) d d lines lines
adds_other times here name lines d is = ([], sym (append-nil lines), record { pods_are = ap (λ (o : Option PodId). map (λ (p : PodId). Some p) (and_pod o [])) (sym is); each = tt; only = nothing_yet })

-- the area was listed before

pub adds_shown : {observed : Bool} (a b c : DirAt) (times : Times) (here : Area) (names : List (List ℕ)) (before after : List GcLine) → observed ≡ true → ListCall observed a (ListArea here) (Names names) b
    → IsStrictlySortedBy (slice_cmp nat_cmp) names → ShowsAreaBetween a b here names → Given (MayPassPods here times.now times.expire) a (λ s. KeepsReady s b) → AddsTold times here names b c before after → AddsShown times here a c before after
adds_shown a b c times here names before after t listing ordered shows ready x = (
  x.0,
  x.1,
  record {
    names = names;
    listed = b.trace;
    only_lists = list_extends (same_self (rank here)) (listing.step t);
    ordered = ordered;
    shows = shows;
    tells = tells_as (knew_on (λ s z k m. pass_kept k m) ready) listing.same times here names b.trace c.trace x.0 x.2;
  },
)
