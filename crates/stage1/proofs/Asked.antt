-- What is asked of a spawner, call by call.
use Rattle.std.proofs.Common.{arith, ◌≡◌, ◌≤◌, ◌-◌, ◌==◌, ℕ, Bool, true, false, Some, List, [], ◌∷◌, ◌++◌, filter, length, length-append, refl, sym, ap, subst, ◌∙◌, append_assoc, append-nil}
use Rattle.std.specs.List.{AllByRecursion, list_any, filter_map, slice_get}
use Rattle.std.proofs.lemmas.Bool.{eqb-true}
use Rattle.std.proofs.lemmas.List.Elements.{filter-append, filter_map-append}
use Rattle.dir_model.proofs.Lists.{all_both, any_push, any_last, same_self}
use Rattle.spawner.specs.declared.call.Child.{Child}
use Rattle.spawner.specs.declared.call.RootPlace.{RootPlace}
use Rattle.spawner.specs.declared.call.SpawnCall.{SpawnCall}
use Rattle.spawner.specs.declared.call.SpawnError.TheVariants.{Failed, NoMemory}
use Rattle.spawner.specs.declared.call.SpawnRequest.{SpawnRequest}
use Rattle.spawner.specs.declared.call.SpawnRequest.TheVariants.{Start}
use Rattle.spawner.specs.declared.call.SpawnReply.{SpawnReply}
use Rattle.spawner.specs.declared.call.SpawnReply.TheVariants.{Done, Started, Ended, Refused}
use Rattle.spawner.specs.Calls.{SpawnerAt, Notes, Tells, call, answers, has_started, root_by, roots_of}
use Rattle.stage1.specs.Asking.{is_noted, IsTrueReply, IsTrueCall, StartedIn, Asks}

-- a call that isn't a start which answers this child leaves where it was started
module _ (child : Child) (calls : List SpawnCall) (c : SpawnCall) (other : answers child c.reply ≡ false) where
  same_roots : roots_of child (calls ++ c ∷ []) ≡ roots_of child calls
  same_roots = filter_map-append (root_by child) calls (c ∷ []) ∙ (ap (λ (rs : List RootPlace). roots_of child calls ++ rs) none ∙ append-nil (roots_of child calls))
    where
      none : filter_map (root_by child) (c ∷ []) ≡ []
      none = rw other refl

  started_kept : (root : RootPlace) → StartedIn root child calls → StartedIn root child (calls ++ c ∷ [])
  started_kept root s = record {
    last = ap (λ (rs : List RootPlace). slice_get rs (length rs - 1)) same_roots ∙ s.last;
    started = any_push (λ x. answers child x.reply) calls c s.started;
  }

at_end : (rs : List RootPlace) (root : RootPlace) → slice_get (rs ++ root ∷ []) (length rs) ≡ Some root
at_end [] root = refl
at_end (r ∷ rs) root = at_end rs root

last_of : (rs : List RootPlace) (root : RootPlace) → slice_get (rs ++ root ∷ []) (length (rs ++ root ∷ []) - 1) ≡ Some root
last_of rs root =
    let last : length (rs ++ root ∷ []) - 1 ≡ length rs = omega (arith, length-append rs (root ∷ [])) in
    ap (λ (n : ℕ). slice_get (rs ++ root ∷ []) n) last ∙ at_end rs root

-- a start that answers a child
pub started_now : (calls : List SpawnCall) (root : RootPlace) (argv env : List (List ℕ)) (cwd : List ℕ) (child : Child) → StartedIn root child (calls ++ call (Start root argv env cwd) (Started child) ∷ [])
started_now calls root argv env cwd child = record {
  last = ap (λ (rs : List RootPlace). slice_get rs (length rs - 1)) roots ∙ last_of (roots_of child calls) root;
  started = any_last (λ x. answers child x.reply) calls (call (Start root argv env cwd) (Started child)) (same_self child.number);
}
  where
    one : filter_map (root_by child) (call (Start root argv env cwd) (Started child) ∷ []) ≡ root ∷ []
    one = rw (same_self child.number) refl

    roots : roots_of child (calls ++ call (Start root argv env cwd) (Started child) ∷ []) ≡ roots_of child calls ++ root ∷ []
    roots = filter_map-append (root_by child) calls (call (Start root argv env cwd) (Started child) ∷ []) ∙ ap (λ (rs : List RootPlace). roots_of child calls ++ rs) one

-- a child that no call answered before is another than one that was
other_child : (new child : Child) (calls : List SpawnCall) → has_started new calls ≡ false → has_started child calls ≡ true → (new.number == child.number) ≡ false
other_child new child calls fresh started = by (new.number == child.number) refl
  where
    by : (b : Bool) → (new.number == child.number) ≡ b → (new.number == child.number) ≡ false
    by false is = is
    by true is =
        let same : has_started new calls ≡ has_started child calls = ap (λ (n : ℕ). list_any (λ x. answers (record { number = n }) x.reply) calls) (eqb-true new.number child.number is) in
        let clash : false ≡ true = sym fresh ∙ (same ∙ started) in
        cc

-- the child that a reply tells of is new
abbrev pub IsNew : List SpawnCall → SpawnReply → Type 0
IsNew calls (Started child) = has_started child calls ≡ false
IsNew calls reply = Unit {0}

kept_reply : (calls : List SpawnCall) (request : SpawnRequest) (reply : SpawnReply) → IsNew calls reply → (root : RootPlace) (child : Child) → StartedIn root child calls → StartedIn root child (calls ++ filter is_noted (call request reply ∷ []))
kept_reply calls request Done fresh root child s = started_kept child calls (call request Done) refl root s
kept_reply calls request (Started new) fresh root child s = started_kept child calls (call request (Started new)) (other_child new child calls fresh s.started) root s
kept_reply calls request (Ended status) fresh root child s = started_kept child calls (call request (Ended status)) refl root s
kept_reply calls request (Refused Failed) fresh root child s = started_kept child calls (call request (Refused Failed)) refl root s
kept_reply calls request (Refused NoMemory) fresh root child s = subst (λ (l : List SpawnCall). StartedIn root child l) (sym (append-nil calls)) s

noted_reply : (old new : List SpawnCall) (request : SpawnRequest) (reply : SpawnReply) → Notes old request reply new → new ≡ old ++ filter is_noted (call request reply ∷ [])
noted_reply old new request Done h = h
noted_reply old new request (Started child) h = h
noted_reply old new request (Ended status) h = h
noted_reply old new request (Refused Failed) h = h
noted_reply old new request (Refused NoMemory) h = h ∙ sym (append-nil old)

-- one call
pub asks_one : {observed : Bool} {old new : SpawnerAt} (request : SpawnRequest) (reply : SpawnReply) → old.faults ≤ new.faults → (observed ≡ true → Tells old request reply new) → (observed ≡ true → IsTrueReply old.status request reply) → (observed ≡ true → IsNew old.calls reply) → Asks observed old (call request reply ∷ []) new
asks_one {observed} {old} {new} request reply faults told is_true fresh = record {
  faults = faults;
  grown = λ t. noted_reply old.calls new.calls request reply (told t).noted;
  same = λ t. (told t).same;
  truly = λ t. (is_true t, tt);
  kept = λ t root child s. subst (λ (l : List SpawnCall). StartedIn root child l) (sym (noted_reply old.calls new.calls request reply (told t).noted)) (kept_reply old.calls request reply (fresh t) root child s);
}

-- none, and several
pub asks_none : {observed : Bool} {s : SpawnerAt} → Asks observed s [] s
asks_none {observed} {s} = record { faults = omega arith; grown = λ t. sym (append-nil s.calls); same = λ t. refl; truly = λ t. tt; kept = λ t root child x. x }

pub asks_more : {observed : Bool} {a b c : SpawnerAt} (xs ys : List SpawnCall) → Asks observed a xs b → Asks observed b ys c → Asks observed a (xs ++ ys) c
asks_more {observed} {a} {b} {c} xs ys ab bc = record {
  faults = omega (arith, ab.faults, bc.faults);
  grown = λ t. bc.grown t ∙ (ap (λ (l : List SpawnCall). l ++ filter is_noted ys) (ab.grown t) ∙ (append_assoc a.calls (filter is_noted xs) (filter is_noted ys) ∙ ap (λ (l : List SpawnCall). a.calls ++ l) (sym (filter-append is_noted xs ys))));
  same = λ t. bc.same t ∙ ab.same t;
  truly = λ t. all_both (IsTrueCall a.status) xs ys (ab.truly t) (subst (λ (f : ℕ → ℕ). AllByRecursion (IsTrueCall f) ys) (ab.same t) (bc.truly t));
  kept = λ t root child s. bc.kept t root child (ab.kept t root child s);
}
