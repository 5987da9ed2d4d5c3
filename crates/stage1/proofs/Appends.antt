-- How often a process has asked for an append to a file, after one call and after several.
use Rattle.std.proofs.Common.{arith, ◌≡◌, ◌≤◌, ◌⊎◌, inl, inr, ℕ, ◌+◌, Bool, true, false, not, ◌&&◌, ◌||◌, cond, List, [], ◌∷◌, ◌++◌, filter, length, length-append, refl, sym, ap, subst, ◌∙◌}
use Rattle.std.specs.List.{AllByRecursion}
use Rattle.std.proofs.lemmas.List.Elements.{filter-append}
use Rattle.dir_model.specs.declared.event.Event.{Event}
use Rattle.dir_model.specs.declared.item.Inner.{Inner}
use Rattle.dir_model.specs.declared.request.Reply.{Reply}
use Rattle.dir_model.specs.declared.request.Request.{Request}
use Rattle.dir_model.specs.Calls.{event, is_foreign, CallStep, TookPlace, LeftNothing}
use Rattle.dir_trait.specs.DirCalls.{DirAt, DirCall, ExtendsBy}
use Rattle.stage1.specs.Keeping.{once, appends_to, is_own_append, appends}

module _ (me : ℕ) (i : Inner) where
  abbrev pub count : List Event → ℕ
  count es = length (filter (is_own_append me i) es)

  pub count_more : (xs ys : List Event) → count (xs ++ ys) ≡ count xs + count ys
  count_more xs ys = ap length (filter-append (is_own_append me i) xs ys) ∙ length-append (filter (is_own_append me i) xs) (filter (is_own_append me i) ys)

  count_foreign : (es : List Event) → AllByRecursion (λ e. is_foreign me e ≡ true) es → count es ≡ 0
  count_foreign [] f = refl
  count_foreign (e ∷ es) f = rw f.0 (count_foreign es f.1)

  count_one : (request : Request) (reply : Reply) → count (event me request reply ∷ []) ≤ once (appends_to i request)
  count_one request reply = by (not (is_foreign me (event me request reply))) (appends_to i request)
    where
      by : (a b : Bool) → length (cond (a && b) (event me request reply ∷ []) []) ≤ once b
      by true true = omega arith
      by true false = omega arith
      by false b = omega arith

  pub step_few : {old new : List Event} {request : Request} {reply : Reply} → CallStep me old request reply new → count new ≤ count old + once (appends_to i request)
  step_few {old} {new} {request} {reply} c = by c.own
    where
      before : count c.before ≡ count old
      before =
          let parts : count c.before ≡ count old + count c.meanwhile.others = ap count c.meanwhile.grown ∙ count_more old c.meanwhile.others in
          omega (arith, parts, count_foreign c.meanwhile.others c.meanwhile.foreign)

      by : TookPlace c.before me request reply new ⊎ LeftNothing c.before me request reply new → count new ≤ count old + once (appends_to i request)
      by (inl took) =
          let parts : count new ≡ count c.before + count (event me request reply ∷ []) = ap count took.grown ∙ count_more c.before (event me request reply ∷ []) in
          omega (arith, parts, before, count_one request reply)
      by (inr left) =
          let same : count new ≡ count c.before = ap count left.same in
          omega (arith, same, before)

  -- requests of a kind that appends nothing to the file
  module _ (asks : Request → Bool) (none : (request : Request) → asks request ≡ true → appends_to i request ≡ false) where
    apart : (f a b : Bool) → (a ≡ true → b ≡ false) → (f || a) ≡ true → (not f && b) ≡ false
    apart true a b so h = refl
    apart false true b so h = so refl
    apart false false b so h = cc

    pub count_none : (es : List Event) → AllByRecursion (λ e. (is_foreign me e || asks e.request) ≡ true) es → count es ≡ 0
    count_none [] asked = refl
    count_none (e ∷ es) asked = rw (apart (is_foreign me e) (asks e.request) (appends_to i e.request) (none e.request) asked.0) (count_none es asked.1)

pub call_few : {observed : Bool} {a b : DirAt} {request : Request} {reply : Reply} → observed ≡ true → (i : Inner) → DirCall observed a request reply b → appends b i ≤ appends a i + once (appends_to i request)
call_few {observed} {a} {b} {request} t i c =
    subst (λ (p : ℕ). count p i b.trace ≤ appends a i + once (appends_to i request)) (sym c.same) (step_few a.process i (c.step t))

pub none_few : {asks : Request → Bool} (a b : DirAt) (i : Inner) → ((request : Request) → asks request ≡ true → appends_to i request ≡ false) → b.process ≡ a.process → ExtendsBy asks a b → appends b i ≤ appends a i
none_few {asks} a b i none same ext =
    let parts : count a.process i b.trace ≡ appends a i + count a.process i ext.more = ap (count a.process i) ext.grown ∙ count_more a.process i a.trace ext.more in
    subst (λ (p : ℕ). count p i b.trace ≤ appends a i) (sym same) (omega (arith, parts, count_none a.process i asks none ext.more ext.asked))
