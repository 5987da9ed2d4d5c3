-- How often something is asked for, from call to call.
use Rattle.std.proofs.Common.{◌≡◌, ◌⊎◌, inl, inr, ◌≤◌, ◌+◌, ◌-◌, ◌==◌, ◌||◌, ◌&&◌, ℕ, zero, suc, Bool, true, false, not, bytes_eq, List, [], ◌∷◌, ◌++◌, refl, ap, subst, ◌∙◌, append_assoc, arith}
use Rattle.std.specs.List.{AllByRecursion}
use Rattle.std.proofs.lemmas.Bool.Decides.{nat_tests}
use Rattle.dir_model.specs.declared.area.Area.{Area}
use Rattle.dir_model.specs.declared.area.Area.TheVariants.{Embryo}
use Rattle.dir_model.specs.declared.event.Event.{Event}
use Rattle.dir_model.specs.declared.pod.PodId.{PodId}
use Rattle.dir_model.specs.declared.request.Request.{Request}
use Rattle.dir_model.specs.declared.request.Request.TheVariants.{Open}
use Rattle.dir_model.specs.declared.request.Reply.{Reply}
use Rattle.dir_model.specs.declared.spot.Spot.{Spot}
use Rattle.dir_model.specs.declared.spot.Which.{Which}
use Rattle.dir_model.specs.declared.spot.Which.TheVariants.{Own, Claim}
use Rattle.dir_model.specs.Areas.{rank}
use Rattle.dir_model.specs.Calls.{CallStep, TookPlace, LeftNothing, Extends, is_foreign, event}
use Rattle.dir_model.specs.Pods.{pod_text}
use Rattle.dir_model.specs.Replies.{is_look_at}
use Rattle.dir_model.specs.State.{spot_eq}
use Rattle.dir_model.proofs.Lists.{and_left}
use Rattle.dir_trait.specs.DirCalls.{DirAt, DirCall, ExtendsBy}
use Rattle.dir_model.specs.Spots.{pod_spot}
use Rattle.phase_read.specs.Often.{one_if, asked_times, AsksAtMost, opens_own, begins_read, ReadsAtMost}

times_append : (asks : Request → Bool) (me : ℕ) (xs ys : List Event) → asked_times asks me (xs ++ ys) ≡ asked_times asks me xs + asked_times asks me ys
times_append asks me [] ys = omega arith
times_append asks me (e ∷ es) ys =
    let rest = times_append asks me es ys in
    omega (arith, rest)

none_one : (a b c : Bool) → (a || b) ≡ true → (b ≡ true → c ≡ false) → one_if (not a && c) ≡ 0
none_one true b c is f = refl
none_one false b c is f = rw (f is) refl

none_times : (asks kind : Request → Bool) (me : ℕ) → ((r : Request) → kind r ≡ true → asks r ≡ false) → (es : List Event) → AllByRecursion (λ e. (is_foreign me e || kind e.request) ≡ true) es → asked_times asks me es ≡ 0
none_times asks kind me f [] all = refl
none_times asks kind me f (e ∷ es) all =
    let here = none_one (is_foreign me e) (kind e.request) (asks e.request) all.0 (f e.request) in
    let rest = none_times asks kind me f es all.1 in
    omega (arith, here, rest)

others_times : (asks : Request → Bool) (me : ℕ) (es : List Event) → AllByRecursion (λ e. is_foreign me e ≡ true) es → asked_times asks me es ≡ 0
others_times asks me [] all = refl
others_times asks me (e ∷ es) all =
    let here : one_if (not (is_foreign me e) && asks e.request) ≡ 0 = rw all.0 refl in
    let rest = others_times asks me es all.1 in
    omega (arith, here, rest)

one_times : (b : Bool) → one_if b ≤ 1
one_times true = omega arith
one_times false = omega arith

not_times : (a b : Bool) → b ≡ false → one_if (a && b) ≤ 0
not_times true b is = rw is (omega arith)
not_times false b is = omega arith

-- requests of another kind
pub asks_none : {asks kind : Request → Bool} {me : ℕ} {a b : List Event} → ((r : Request) → kind r ≡ true → asks r ≡ false) → Extends kind me a b → AsksAtMost 0 asks me a b
asks_none {asks} {kind} {me} f e =
    let none = none_times asks kind me f e.more e.asked in
    record { more = e.more; grown = e.grown; counted = omega (arith, none) }

-- one call, which asks for it at most so often
asks_by : {asks : Request → Bool} {me : ℕ} {request : Request} {reply : Reply} {a b : List Event} (n : ℕ) → one_if (not (is_foreign me (event me request reply)) && asks request) ≤ n → CallStep me a request reply b → AsksAtMost n asks me a b
asks_by {asks} {me} {request} {reply} {a} {b} n one s = from s.own
  where
    before : asked_times asks me s.meanwhile.others ≡ 0
    before = others_times asks me s.meanwhile.others s.meanwhile.foreign

    from : TookPlace s.before me request reply b ⊎ LeftNothing s.before me request reply b → AsksAtMost n asks me a b
    from (inl took) =
        let both = times_append asks me s.meanwhile.others (event me request reply ∷ []) in
        record {
          more = s.meanwhile.others ++ event me request reply ∷ [];
          grown = took.grown ∙ (ap (λ h. h ++ event me request reply ∷ []) s.meanwhile.grown ∙ append_assoc a s.meanwhile.others (event me request reply ∷ []));
          counted = omega (arith, both, before, one);
        }
    from (inr late) = record { more = s.meanwhile.others; grown = late.same ∙ s.meanwhile.grown; counted = omega (arith, before) }

pub asks_once : {asks : Request → Bool} {me : ℕ} {request : Request} {reply : Reply} {a b : List Event} → CallStep me a request reply b → AsksAtMost 1 asks me a b
asks_once {asks} {me} {request} {reply} s = asks_by 1 (one_times (not (is_foreign me (event me request reply)) && asks request)) s

pub asks_never : {asks : Request → Bool} {me : ℕ} {request : Request} {reply : Reply} {a b : List Event} → asks request ≡ false → CallStep me a request reply b → AsksAtMost 0 asks me a b
asks_never {asks} {me} {request} {reply} is s = asks_by 0 (not_times (not (is_foreign me (event me request reply))) (asks request) is) s

-- one stretch after the other
pub asks_more : {asks : Request → Bool} {me other : ℕ} {a b c : List Event} {n m : ℕ} (k : ℕ) → n + m ≤ k → AsksAtMost n asks me a b → other ≡ me → AsksAtMost m asks other b c → AsksAtMost k asks me a c
asks_more {asks} {me} {other} {a} {b} {c} {n} {m} k within ab same bc =
    let next = subst (λ (p : ℕ). AsksAtMost m asks p b c) same bc in
    let both = times_append asks me ab.more next.more in
    record {
      more = ab.more ++ next.more;
      grown = next.grown ∙ (ap (λ h. h ++ next.more) ab.grown ∙ append_assoc a ab.more next.more);
      counted = omega (arith, both, ab.counted, next.counted, within);
    }

pub asks_within : {asks : Request → Bool} {me : ℕ} {a b : List Event} {n : ℕ} (k : ℕ) → n ≤ k → AsksAtMost n asks me a b → AsksAtMost k asks me a b
asks_within k within x = record { more = x.more; grown = x.grown; counted = omega (arith, within, x.counted) }

-- one area of a read
pub at_embryo : (area : Area) → rank area ≡ 0 → area ≡ Embryo
at_embryo Embryo is = refl
at_embryo _ is = cc

elsewhere : (n m : ℕ) → (suc n == m) ≡ true → (0 == m) ≡ false
elsewhere n m is = grind (arith, nat_tests)

module _ (pod : PodId) (area : Area) (text : List ℕ) where
  abbrev here : Spot
  here = record { area = area; name = text }

  not_begins : (n : ℕ) → rank area ≡ suc n → (r : Request) → is_look_at (spot_eq here) r ≡ true → begins_read pod r ≡ false
  not_begins n is (Open spot Own) looks =
      let other = elsewhere n (rank spot.area) (subst (λ (k : ℕ). (k == rank spot.area) ≡ true) is (and_left (rank area == rank spot.area) (bytes_eq text spot.name) looks)) in
      rw other refl
  not_begins n is (Open spot Claim) looks = refl
  not_begins n is r looks = refl

  pub reads_area : {me : ℕ} {a b : List Event} → text ≡ pod_text pod.bytes → (area ≡ Embryo → AsksAtMost 1 (opens_own here) me a b) → Extends (is_look_at (spot_eq here)) me a b → AsksAtMost (1 - rank area) (begins_read pod) me a b
  reads_area {me} {a} {b} named once looks = by (rank area) refl
    where
      by : (n : ℕ) → rank area ≡ n → AsksAtMost (1 - n) (begins_read pod) me a b
      by zero is =
          let embryo = at_embryo area is in
          subst (λ (s : Spot). AsksAtMost 1 (opens_own s) me a b) (ap (λ (x : Area). let s : Spot = record { area = x; name = text } in s) embryo ∙ ap (λ (t : List ℕ). pod_named t) named) (once embryo)
        where
          pod_named : List ℕ → Spot
          pod_named t = record { area = Embryo; name = t }
      by (suc n) is = asks_within (1 - suc n) (omega arith) (asks_none (not_begins n is) looks)

-- how often the phase is read
pub reads_more : {observed : Bool} {pod : PodId} {n m : ℕ} {a b c : DirAt} (k : ℕ) → n + m ≤ k → ReadsAtMost n observed pod a b → b.process ≡ a.process → ReadsAtMost m observed pod b c → ReadsAtMost k observed pod a c
reads_more k within ab same bc = record { reads = λ t. asks_more k within (ab.reads t) same (bc.reads t) }

pub unread_call : {observed : Bool} {pod : PodId} {request : Request} {reply : Reply} {a b : DirAt} → begins_read pod request ≡ false → DirCall observed a request reply b → ReadsAtMost 0 observed pod a b
unread_call is c = record { reads = λ t. asks_never is (c.step t) }

pub unread_by : {observed : Bool} {kind : Request → Bool} {pod : PodId} {a b : DirAt} → ((r : Request) → kind r ≡ true → begins_read pod r ≡ false) → (observed ≡ true → ExtendsBy kind a b) → ReadsAtMost 0 observed pod a b
unread_by f extends = record { reads = λ t. asks_none f (extends t) }

-- a lock that is opened at a later place of the pod
pub opens_past : (pod : PodId) (area : Area) (n : ℕ) → rank area ≡ suc n → (spot : Spot) → spot_eq (pod_spot pod area) spot ≡ true → (which : Which) → begins_read pod (Open spot which) ≡ false
opens_past pod area n is spot same Own =
    let other = elsewhere n (rank spot.area) (subst (λ (k : ℕ). (k == rank spot.area) ≡ true) is (and_left (rank area == rank spot.area) (bytes_eq (pod_text pod.bytes) spot.name) same)) in
    rw other refl
opens_past pod area n is spot same Claim = refl

pub reads_within : {observed : Bool} {pod : PodId} {n : ℕ} {a b : DirAt} (k : ℕ) → n ≤ k → ReadsAtMost n observed pod a b → ReadsAtMost k observed pod a b
reads_within k within x = record { reads = λ t. asks_within k within (x.reads t) }
