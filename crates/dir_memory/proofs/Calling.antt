-- What the calls of a directory in memory say, as of every directory.
use Rattle.std.proofs.Common.{◌≡◌, ◌⊎◌, inl, inr, ℕ, ◌+◌, ◌≤◌, Result, Ok, Err, IfOk, IfErr, Option, Some, None, Bool, true, false, not, ◌&&◌, ◌==◌, cond, length, take, drop, List, [], ◌∷◌, ◌++◌, arith, refl, sym, ap, subst, ◌∙◌, append_assoc, append-nil}
use Rattle.std.specs.List.{list_any, list_all, AllByRecursion}
use Rattle.std.specs.List.Sorted.{IsStrictlySortedBy}
use Rattle.std.specs.declared.cmp.Ordering.TheVariants.{Less}
use Rattle.std.specs.Ordering.{nat_cmp, is_lt}
use Rattle.std.specs.Cmp.Lexicographic.{slice_cmp}
use Rattle.std.proofs.lemmas.Grind.{common_steps}
use Rattle.dir_model.specs.declared.event.Event.{Event}
use Rattle.dir_model.specs.declared.item.Inner.{Inner}
use Rattle.dir_model.specs.declared.item.Item.{Item}
use Rattle.dir_model.specs.declared.tree.TreeEntry.{TreeEntry}
use Rattle.dir_model.specs.declared.spot.Handle.{Handle}
use Rattle.dir_model.specs.declared.request.DirError.{DirError}
use Rattle.dir_model.specs.declared.request.DirError.TheVariants.{Failed, NoMemory}
use Rattle.dir_model.specs.declared.request.Request.{Request}
use Rattle.dir_model.specs.declared.request.Request.TheVariants.{Begin, Open, OpenArea, ListArea, ListIn, ReadIn, Close, Finish, Kill}
use Rattle.dir_model.specs.declared.request.Reply.{Reply}
use Rattle.dir_model.specs.declared.request.Reply.TheVariants.{Done, Begun, Opened, Read, Refused}
use Rattle.dir_model.specs.State.{Namespace, DirState, empty_state, folder_at, has_open, lives}
use Rattle.dir_model.specs.Trees.{content}
use Rattle.dir_model.specs.Trace.{state_next, states_next, state_after}
use Rattle.dir_model.specs.Listings.{is_listing_request, ascend, item_names}
use Rattle.dir_model.specs.declared.area.Area.{Area}
use Rattle.dir_model.specs.Replies.{is_fallible, is_fault, asks_for_handle, asks_for_nothing, is_late_reply, may_refuse, refusal, bytes_at, done_reply, opened_reply, names_reply, items_reply, read_reply}
use Rattle.dir_model.specs.Causes.{Rose}
use Rattle.dir_model.specs.Calls.{IsRun, is_run_from, is_allowed, is_begin, event, CallStep, ListStep, Interference}
use Rattle.dir_model.specs.Local.{Local, is_open_among, local_replied, holdings_in}
use Rattle.dir_model.proofs.Lists.{and_left, and_right, same_self, all_push}
use Rattle.dir_model.proofs.Chains.{run-left}
use Rattle.dir_model.proofs.Holdings.{open_same}
use Rattle.dir_trait.specs.DirCalls.{DirCall, ListCall}
use Rattle.dir_state.specs.Parts.{kill_of}
use Rattle.dir_state.specs.Answers.{free_handle, opened_or_refused, granted, answer_by, answer}
use Rattle.dir_state.proofs.Answering.{refusal_named, free_unopened, fault_named}
use Rattle.dir_state.proofs.Orders.{less}
use Rattle.dir_memory.specs.Schedules.{due}
use Rattle.dir_memory.specs.Interludes.{Interlude}
use Rattle.dir_memory.specs.Memories.{Memory, raised, is_to_fail, before_call, still_pending, next_reply, answer_or_failure, CallerWasKilled, MemoryFollows, FollowsListing, once_begun, before_end, is_end_of, is_numbered, is_plain_reply, is_opening, is_read_request, has_shape, dir_of_memory, memory_given_up}
use Rattle.dir_memory.proofs.Meanwhile.{steps_come}
use Rattle.dir_memory.proofs.Facts.{none_ended}

-- what a reply says
pub record Says (n : Namespace) (p : ℕ) (request : Request) (fails : Bool) (reply : Reply) : Type 0 where
  pub refusals : (error : DirError) (left : ℕ) → reply ≡ Refused error left → may_refuse request error ≡ true
  pub failed : (left : ℕ) → reply ≡ Refused Failed left → fails ≡ true
  pub shape : has_shape request reply ≡ true
  pub unopened : (handle : Handle) → reply ≡ Opened handle → has_open n p handle ≡ false

cond_all : (b c : Bool) → cond b true (cond c true true) ≡ true
cond_all true c = refl
cond_all false true = refl
cond_all false false = refl

shape_refused : (request : Request) (error : DirError) → has_shape request (Refused error 0) ≡ true
shape_refused request error = cond_all (asks_for_handle request) (is_read_request request)

says_refused : (n : Namespace) (p : ℕ) (request : Request) (fails : Bool) (error : DirError) → may_refuse request error ≡ true → (error ≡ Failed → fails ≡ true) → Says n p request fails (Refused error 0)
says_refused n p request fails error may fault = record {
  refusals = λ e left is. let same : error ≡ e = cc in subst (λ (x : DirError). may_refuse request x ≡ true) same may;
  failed = λ left is. let same : error ≡ Failed = cc in fault same;
  shape = shape_refused request error;
  unopened = λ handle is. cc;
}

not_fault : (error : DirError) → is_fault error ≡ false → error ≡ Failed → false ≡ true
not_fault error fine same = let is : is_fault Failed ≡ false = subst (λ (x : DirError). is_fault x ≡ false) same fine in cc

no_fault : NoMemory ≡ Failed → false ≡ true
no_fault h = cc

says_opened : (n : Namespace) (p : ℕ) (request : Request) (h : Option Handle) → asks_for_handle request ≡ true → may_refuse request NoMemory ≡ true → ((handle : Handle) → h ≡ Some handle → has_open n p handle ≡ false) → Says n p request false (opened_or_refused h)
says_opened n p request None asks may free = says_refused n p request false NoMemory may no_fault
says_opened n p request (Some handle) asks may free = record {
  refusals = λ e left is. cc;
  failed = λ left is. cc;
  shape = rw asks refl;
  unopened = λ x is. let same : handle ≡ x = cc in subst (λ (y : Handle). has_open n p y ≡ false) same (free handle refl);
}

says_granted : (s : DirState) (p : ℕ) (request : Request) → is_listing_request request ≡ false → Says s.namespace p request false (granted s p request)
says_granted s p (Open spot which) plain = says_opened s.namespace p (Open spot which) (free_handle s.namespace p) refl refl (λ handle found. free_unopened s.namespace p handle found)
says_granted s p (OpenArea area) plain = says_opened s.namespace p (OpenArea area) (free_handle s.namespace p) refl refl (λ handle found. free_unopened s.namespace p handle found)
says_granted s p (ReadIn inner at room) plain = record { refusals = λ e left is. cc; failed = λ left is. cc; shape = refl; unopened = λ handle is. cc }
says_granted s p (ListArea area) plain = cc
says_granted s p (ListIn inner) plain = cc
says_granted s p request plain = record { refusals = λ e left is. cc; failed = λ left is. cc; shape = refl; unopened = λ handle is. cc }

says_by : (s : DirState) (p : ℕ) (request : Request) (r : Option DirError) → is_listing_request request ≡ false → refusal s p request ≡ r → Says s.namespace p request false (answer_by r (granted s p request))
says_by s p request None plain is = says_granted s p request plain
says_by s p request (Some error) plain is = let named = refusal_named s p request error is in says_refused s.namespace p request false error named.0 (not_fault error named.1)

says_answer : (s : DirState) (p : ℕ) (request : Request) → is_listing_request request ≡ false → Says s.namespace p request false (answer s p request)
says_answer s p request plain = subst (λ (b : Bool). Says s.namespace p request false (cond b Begun (answer_by (refusal s p request) (granted s p request)))) (sym plain) (says_by s p request (refusal s p request) plain refl)

own_says : (fails : Bool) (s : DirState) (p : ℕ) (request : Request) (reply : Reply) → is_listing_request request ≡ false → (fails ≡ true → is_fallible request ≡ true) → reply ≡ answer_or_failure fails s p request → Says s.namespace p request fails reply
own_says true s p request reply plain fallible is = subst (λ (r : Reply). Says s.namespace p request true r) (sym is) (says_refused s.namespace p request true Failed (fault_named request Failed (fallible refl) refl) (λ same. refl))
own_says false s p request reply plain fallible is = subst (λ (r : Reply). Says s.namespace p request false r) (sym is) (says_answer s p request plain)

fails_fallible : (old : Memory) (request : Request) → is_to_fail old request ≡ true → is_fallible request ≡ true
fails_fallible old request fails = and_left (is_fallible request) (list_any (λ number. number == old.numbered + 1) old.failing) fails

said : (old : Memory) (request : Request) (reply : Reply) → is_listing_request request ≡ false → reply ≡ next_reply old request → Says (state_after (before_call old request)).namespace old.process request (is_to_fail old request) reply
said old request reply plain replied = own_says (is_to_fail old request) (state_after (before_call old request)) old.process request reply plain (fails_fallible old request) replied

-- a handle that is given wasn't open by the process's own answers
pub opened_new : (old : Memory) (request : Request) (reply : Reply) (handle : Handle) → is_listing_request request ≡ false → holdings_in (state_after old.trace).namespace old.process ≡ old.local.holdings → reply ≡ next_reply old request → reply ≡ Opened handle → is_open_among handle old.local.holdings ≡ false
opened_new old request reply handle plain holds replied is =
    let n : Namespace = (state_after (before_call old request)).namespace in
    let came : Interlude old.process old.trace (before_call old request) = steps_come old.process old.trace (due (old.numbered + 1) (is_listing_request request) old.pending) in
    subst (λ hs. is_open_among handle hs ≡ false) (came.holds ∙ holds) (open_same n old.process handle ∙ (said old request reply plain replied).unopened handle is)

-- the same of a whole call

numbered_refuses : (request : Request) → is_numbered request ≡ true → may_refuse request NoMemory ≡ true
numbered_refuses (Begin intent) h = refl
numbered_refuses (Close handle) h = cc
numbered_refuses Finish h = cc
numbered_refuses Kill h = cc
numbered_refuses _ h = refl

pub record CallSays (old : Memory) (request : Request) (reply : Reply) (new : Memory) : Type 0 where
  pub refusals : (error : DirError) (left : ℕ) → reply ≡ Refused error left → may_refuse request error ≡ true
  pub failed : (left : ℕ) → reply ≡ Refused Failed left → Rose old.faults new.faults
  pub shape : has_shape request reply ≡ true

rose_if : (b : Bool) (faults new : ℕ) → new ≡ cond b (raised faults) faults → b ≡ true → Rose faults new
rose_if true faults new is yes_it_is = omega (arith, is)
rose_if false faults new is yes_it_is = cc

stopped_fallible : (request : Request) (b : Bool) → is_numbered request ≡ true → (not (is_begin request) && b) ≡ true → is_fallible request ≡ true
stopped_fallible (Begin intent) b numbered stopped = cc
stopped_fallible (Close handle) b numbered stopped = cc
stopped_fallible Finish b numbered stopped = cc
stopped_fallible Kill b numbered stopped = cc
stopped_fallible _ b numbered stopped = refl

refused_says : (old : Memory) (request : Request) (reply : Reply) (new : Memory) (error : DirError) → reply ≡ Refused error 0 → may_refuse request error ≡ true → (error ≡ Failed → Rose old.faults new.faults) → CallSays old request reply new
refused_says old request reply new error is may rose = record {
  refusals = λ e left r. let same : error ≡ e = refusal_is (sym is ∙ r) in subst (λ (x : DirError). may_refuse request x ≡ true) same may;
  failed = λ left r. rose (refusal_is (sym is ∙ r));
  shape = rw is (shape_refused request error);
}
  where
    refusal_is : {e f : DirError} {a b : ℕ} → Refused e a ≡ Refused f b → e ≡ f
    refusal_is {e} {f} {a} {b} h = cc

never_failed : (old new : Memory) → NoMemory ≡ Failed → Rose old.faults new.faults
never_failed old new h = cc

pub follows_says : (old : Memory) (request : Request) (reply : Reply) (new : Memory) → is_numbered request ≡ true → is_listing_request request ≡ false → MemoryFollows old request reply new → CallSays old request reply new
follows_says old request reply new numbered plain (inl a) =
    let s = said old request reply plain a.replied in
    record {
      refusals = s.refusals;
      failed = λ left is. rose_if (is_to_fail old request) old.faults new.faults (ap (λ (m : Memory). m.faults) a.after) (s.failed left is);
      shape = s.shape;
    }
follows_says old request reply new numbered plain (inr (inl r)) = refused_says old request reply new NoMemory r.replied (numbered_refuses request numbered) (never_failed old new)
follows_says old request reply new numbered plain (inr (inr t)) = refused_says old request reply new Failed t.replied (fault_named request Failed (stopped_fallible request _ numbered t.stopped) refl) (λ same. rose_if true old.faults new.faults (ap (λ (m : Memory). m.faults) t.after) refl)

-- the last event of a run was allowed
run_last : (s : DirState) (h : List Event) (e : Event) → is_run_from s (h ++ e ∷ []) ≡ true → is_allowed (states_next s h) e ≡ true
run_last s [] e run = and_left (is_allowed s e) true run
run_last s (x ∷ xs) e run = run_last (state_next s x) xs e (and_right (is_allowed s x) (is_run_from (state_next s x) (xs ++ e ∷ [])) run)

late_failed : (request : Request) → may_refuse request Failed ≡ true → is_late_reply request (Refused Failed 0) ≡ true
late_failed (Close handle) may = may
late_failed Finish may = may
late_failed _ may = may

late_run_out : (request : Request) → may_refuse request NoMemory ≡ true → is_late_reply request (Refused NoMemory 0) ≡ true
late_run_out (Close handle) may = may
late_run_out Finish may = may
late_run_out _ may = may

late_refused : (request : Request) (error : DirError) → is_fault error ≡ true → may_refuse request error ≡ true → is_late_reply request (Refused error 0) ≡ true
late_refused request Failed fault may = late_failed request may
late_refused request NoMemory fault may = late_run_out request may
late_refused request _ fault may = cc

kill_foreign : (b : Bool) (me : ℕ) (a h : List Event) → Interference me a h → Interference me a (h ++ kill_of b me)
kill_foreign true me a h i = record {
  others = i.others ++ event me Kill Done ∷ [];
  foreign = all_push _ i.others (event me Kill Done) i.foreign (rw (same_self me) refl);
  grown = ap (λ l. l ++ event me Kill Done ∷ []) i.grown ∙ append_assoc a i.others (event me Kill Done ∷ []);
}
kill_foreign false me a h i = record { others = i.others; foreign = i.foreign; grown = ap (λ l. l ++ []) i.grown ∙ (append_assoc a i.others [] ∙ ap (λ l. a ++ l) (append-nil i.others)) }

come_to : (old : Memory) (request : Request) → Interference old.process old.trace (before_call old request)
come_to old request = (steps_come old.process old.trace (due (old.numbered + 1) (is_listing_request request) old.pending)).meanwhile

stopped_meanwhile : (old : Memory) (request : Request) (reply : Reply) (new : Memory) → CallerWasKilled old request reply new → Interference old.process old.trace new.trace
stopped_meanwhile old request reply new t = subst (λ (h : List Event). Interference old.process old.trace h) (sym (ap (λ (m : Memory). m.trace) t.after)) (kill_foreign (not old.killed) old.process old.trace (before_call old request) (come_to old request))

-- the trace of a call
pub follows_step : (old : Memory) (request : Request) (reply : Reply) (new : Memory) → is_numbered request ≡ true → is_listing_request request ≡ false → IsRun new.trace → MemoryFollows old request reply new → CallStep old.process old.trace request reply new.trace
follows_step old request reply new numbered plain run (inl a) =
    let e : Event = event old.process request reply in
    let grown : new.trace ≡ before_call old request ++ e ∷ [] = ap (λ (m : Memory). m.trace) a.after in
    record {
      before = before_call old request;
      meanwhile = come_to old request;
      own = inl (record { allowed = run_last empty_state (before_call old request) e (subst IsRun grown run); grown = grown });
      run = run;
    }
follows_step old request reply new numbered plain run (inr (inl r)) = record {
  before = new.trace;
  meanwhile = r.meanwhile;
  own = inr (record { why = inr r.replied; late = rw r.replied (late_refused request NoMemory refl (numbered_refuses request numbered)); same = refl });
  run = run;
}
follows_step old request reply new numbered plain run (inr (inr t)) = record {
  before = new.trace;
  meanwhile = stopped_meanwhile old request reply new t;
  own = inr (record { why = inl t.over; late = rw t.replied (late_refused request Failed refl (fault_named request Failed (stopped_fallible request _ numbered t.stopped) refl)); same = refl });
  run = run;
}

raised_most : (n : ℕ) → raised n ≤ n + 1
raised_most n = omega arith

-- as every directory is seen
pub follows_called : (old : Memory) (request : Request) (reply : Reply) (new : Memory) → is_numbered request ≡ true → is_listing_request request ≡ false → IsRun new.trace → old.faults ≤ new.faults → MemoryFollows old request reply new → DirCall true (dir_of_memory old) request reply (dir_of_memory new)
follows_called old request reply new numbered plain run faults f =
    let k = kept f in
    record { counted = k.0; same = k.1; faults = faults; local = k.2; step = λ observed. follows_step old request reply new numbered plain run f }
  where
    kept : MemoryFollows old request reply new → (new.calls ≤ old.calls + 1) × (new.process ≡ old.process) × (new.local ≡ local_replied old.local request reply)
    kept (inl a) = (omega (arith, raised_most old.calls, ap (λ (m : Memory). m.calls) a.after), ap (λ (m : Memory). m.process) a.after, ap (λ (m : Memory). m.local) a.after)
    kept (inr (inl r)) = (omega (arith, raised_most old.calls, ap (λ (m : Memory). m.calls) r.same), ap (λ (m : Memory). m.process) r.same, ap (λ (m : Memory). m.local) r.same)
    kept (inr (inr t)) = (omega (arith, raised_most old.calls, ap (λ (m : Memory). m.calls) t.after), ap (λ (m : Memory). m.process) t.after, ap (λ (m : Memory). m.local) t.after)

-- a listing

run_first : (h : List Event) (e : Event) (more : List Event) → IsRun ((h ++ e ∷ []) ++ more) → IsRun (h ++ e ∷ [])
run_first h e more run = run-left (h ++ e ∷ []) more run

listing_late : (request : Request) (error : DirError) → is_listing_request request ≡ true → is_fault error ≡ true → may_refuse request error ≡ true
listing_late (ListArea area) error asks fault = fault_named (ListArea area) error refl fault
listing_late (ListIn inner) error asks fault = fault_named (ListIn inner) error refl fault
listing_late _ error asks fault = cc

module _ (old : Memory) (request : Request) (reply : Reply) (new : Memory) (asks : is_listing_request request ≡ true) (run : IsRun new.trace) where
  begins : (mid : List Event) → Interference old.process (once_begun old request) mid → new.trace ≡ mid ++ event old.process request reply ∷ [] → is_end_of request reply ≡ true → ListStep old.process old.trace request reply new.trace
  begins mid inside grown ends =
      let first : Event = event old.process request Begun in
      let last : Event = event old.process request reply in
      let whole : new.trace ≡ once_begun old request ++ (inside.others ++ last ∷ []) = grown ∙ (ap (λ h. h ++ last ∷ []) inside.grown ∙ append_assoc (once_begun old request) inside.others (last ∷ [])) in
      let begun : IsRun (once_begun old request) = run-left (once_begun old request) (inside.others ++ last ∷ []) (subst IsRun whole run) in
      inl (record {
        between = once_begun old request;
        begins = record {
          before = before_call old request;
          meanwhile = come_to old request;
          own = inl (record { allowed = run_last empty_state (before_call old request) first begun; grown = refl });
          run = begun;
        };
        ends = record {
          before = mid;
          meanwhile = inside;
          own = inl (record { allowed = run_last empty_state mid last (subst IsRun grown run); grown = grown });
          run = run;
        };
        ended = λ living. none_ended mid new.trace old.process request reply ends asks grown;
      })

  pub lists_step : FollowsListing old request reply new → ListStep old.process old.trace request reply new.trace
  lists_step (inl l) = begins (before_end old request) (steps_come old.process (once_begun old request) (due (old.numbered + 1) false (still_pending old request))).meanwhile (ap (λ (m : Memory). m.trace) l.after) l.ends
  lists_step (inr (inl c)) = begins c.trace c.meanwhile (ap (λ (m : Memory). m.trace) c.after) (rw c.replied (cut_end request asks))
    where
      cut_end : (r : Request) → is_listing_request r ≡ true → is_end_of r (Refused NoMemory 0) ≡ true
      cut_end (ListArea area) h = refl
      cut_end (ListIn inner) h = refl
      cut_end _ h = cc
  lists_step (inr (inr (inl r))) = inr (record {
    before = new.trace;
    meanwhile = r.meanwhile;
    late = record { why = inr r.replied; late = rw r.replied (late_refused request NoMemory refl (listing_late request NoMemory asks refl)); same = refl };
    run = run;
  })
  lists_step (inr (inr (inr t))) = inr (record {
    before = new.trace;
    meanwhile = stopped_meanwhile old request reply new t;
    late = record { why = inl t.over; late = rw t.replied (late_refused request Failed refl (listing_late request Failed asks refl)); same = refl };
    run = run;
  })

  pub lists_called : old.faults ≤ new.faults → FollowsListing old request reply new → ListCall true (dir_of_memory old) request reply (dir_of_memory new)
  lists_called faults f =
      let k = kept f in
      record { counted = k.0; same = k.1; faults = faults; local = k.2; step = λ observed. lists_step f }
    where
      kept : FollowsListing old request reply new → (new.calls ≤ old.calls + 1) × (new.process ≡ old.process) × (new.local ≡ local_replied old.local request reply)
      kept (inl a) = (omega (arith, raised_most old.calls, ap (λ (m : Memory). m.calls) a.after), ap (λ (m : Memory). m.process) a.after, ap (λ (m : Memory). m.local) a.after)
      kept (inr (inl c)) = (omega (arith, raised_most old.calls, ap (λ (m : Memory). m.calls) c.after), ap (λ (m : Memory). m.process) c.after, ap (λ (m : Memory). m.local) c.after)
      kept (inr (inr (inl r))) = (omega (arith, raised_most old.calls, ap (λ (m : Memory). m.calls) r.same), ap (λ (m : Memory). m.process) r.same, ap (λ (m : Memory). m.local) r.same)
      kept (inr (inr (inr t))) = (omega (arith, raised_most old.calls, ap (λ (m : Memory). m.calls) t.after), ap (λ (m : Memory). m.process) t.after, ap (λ (m : Memory). m.local) t.after)

  cut_ends : (r : Request) → is_listing_request r ≡ true → is_end_of r (Refused NoMemory 0) ≡ true
  cut_ends (ListArea area) h = refl
  cut_ends (ListIn inner) h = refl
  cut_ends _ h = cc

  fail_ends : (r : Request) → is_listing_request r ≡ true → is_end_of r (Refused Failed 0) ≡ true
  fail_ends (ListArea area) h = refl
  fail_ends (ListIn inner) h = refl
  fail_ends _ h = cc

  -- it is answered as its call may be
  pub lists_ends : FollowsListing old request reply new → is_end_of request reply ≡ true
  lists_ends (inl l) = l.ends
  lists_ends (inr (inl c)) = rw c.replied (cut_ends request asks)
  lists_ends (inr (inr (inl r))) = rw r.replied (cut_ends request asks)
  lists_ends (inr (inr (inr t))) = rw t.replied (fail_ends request asks)

-- what the answers of a call say, by the reply that they stand for
module _ (old : Memory) (request : Request) (reply : Reply) (new : Memory) (says : CallSays old request reply new) where
  pub done_failed : (r : Result (Unit {0}) DirError) → done_reply r ≡ reply → r ≡ Err Failed → Rose old.faults new.faults
  done_failed r is failed = says.failed 0 (sym is ∙ ap done_reply failed)

  pub done_refused : (r : Result (Unit {0}) DirError) → done_reply r ≡ reply → IfErr r (λ e. may_refuse request e ≡ true)
  done_refused (Ok x) is = tt
  done_refused (Err e) is = says.refusals e 0 (sym is)

  pub opened_failed : (r : Result Handle DirError) → opened_reply r ≡ reply → r ≡ Err Failed → Rose old.faults new.faults
  opened_failed r is failed = says.failed 0 (sym is ∙ ap opened_reply failed)

  pub opened_refused : (r : Result Handle DirError) → opened_reply r ≡ reply → IfErr r (λ e. may_refuse request e ≡ true)
  opened_refused (Ok x) is = tt
  opened_refused (Err e) is = says.refusals e 0 (sym is)

  pub read_failed : (room : List ℕ) (r : Result ℕ DirError) → read_reply room r ≡ reply → r ≡ Err Failed → Rose old.faults new.faults
  read_failed room r is failed = says.failed 0 (sym is ∙ ap (read_reply room) failed)

  pub read_refused : (room : List ℕ) (r : Result ℕ DirError) → read_reply room r ≡ reply → IfErr r (λ e. may_refuse request e ≡ true)
  read_refused room (Ok x) is = tt
  read_refused room (Err e) is = says.refusals e 0 (sym is)

pub opened_unopened : (m : Local) (reply : Reply) → ((handle : Handle) → reply ≡ Opened handle → is_open_among handle m.holdings ≡ false) → (r : Result Handle DirError) → opened_reply r ≡ reply → IfOk r (λ handle. is_open_among handle m.holdings ≡ false)
opened_unopened m reply new (Ok handle) is = new handle (sym is)
opened_unopened m reply new (Err e) is = tt

-- the shape of a reply, by what was asked for
pub shape_plain : (request : Request) (reply : Reply) → asks_for_nothing request ≡ true → is_listing_request request ≡ false → has_shape request reply ≡ true → is_plain_reply reply ≡ true
shape_plain (Open spot which) reply nothing plain shape = cc
shape_plain (OpenArea area) reply nothing plain shape = cc
shape_plain (ReadIn inner at room) reply nothing plain shape = cc
shape_plain _ reply nothing plain shape = shape

pub shape_opening : (request : Request) (reply : Reply) → asks_for_handle request ≡ true → has_shape request reply ≡ true → is_opening reply ≡ true
shape_opening request reply asks shape = rw asks at shape

-- a read fills no more than the room
short : (room : ℕ) (bytes : List ℕ) → length (take room bytes) ≤ room
short room bytes = grind (arith, common_steps)

short_at : (es : List TreeEntry) (path : List ℕ) (at room : ℕ) (o : Option ℕ) → length (bytes_at es path at room o) ≤ room
short_at es path at room None = omega arith
short_at es path at room (Some folder) = short room (drop at (content es folder path))

read_short : (s : DirState) (p : ℕ) (inner : Inner) (at room : ℕ) (fails : Bool) (o : Option DirError) (bytes : List ℕ) → cond fails (Refused Failed 0) (answer_by o (Read (bytes_at s.entries inner.path at room (folder_at s.namespace inner.spot)))) ≡ Read bytes → length bytes ≤ room
read_short s p inner at room true o bytes is = cc
read_short s p inner at room false (Some error) bytes is = cc
read_short s p inner at room false None bytes is =
    let same : bytes_at s.entries inner.path at room (folder_at s.namespace inner.spot) ≡ bytes = cc in
    subst (λ (l : List ℕ). length l ≤ room) same (short_at s.entries inner.path at room (folder_at s.namespace inner.spot))

pub read_fits : (old : Memory) (inner : Inner) (at room : ℕ) (reply : Reply) (new : Memory) (bytes : List ℕ) → MemoryFollows old (ReadIn inner at room) reply new → reply ≡ Read bytes → length bytes ≤ room
read_fits old inner at room reply new bytes (inl a) is = let s : DirState = state_after (before_call old (ReadIn inner at room)) in read_short s old.process inner at room (is_to_fail old (ReadIn inner at room)) (refusal s old.process (ReadIn inner at room)) bytes (sym a.replied ∙ is)
read_fits old inner at room reply new bytes (inr (inl r)) is = let clash : Refused NoMemory 0 ≡ Read bytes = sym r.replied ∙ is in cc
read_fits old inner at room reply new bytes (inr (inr t)) is = let clash : Refused Failed 0 ≡ Read bytes = sym t.replied ∙ is in cc

-- an own event that gives something up
pub given_called : (old : Memory) (request : Request) (new : Memory) → (request ≡ Finish) ⊎ ((h : Handle) × (request ≡ Close h)) → new ≡ memory_given_up old request → IsRun new.trace → (old.killed ≡ true → lives (state_after old.trace).namespace old.process ≡ false) → DirCall true (dir_of_memory old) request Done (dir_of_memory new)
given_called old request new which is run over = record {
  counted = omega (arith, raised_most old.calls, ap (λ (m : Memory). m.calls) is);
  same = ap (λ (m : Memory). m.process) is;
  faults = omega (arith, ap (λ (m : Memory). m.faults) is);
  local = ap (λ (m : Memory). m.local) is;
  step = λ observed. by old.killed refl;
}
  where
    late : (r : Request) → (r ≡ Finish) ⊎ ((h : Handle) × (r ≡ Close h)) → is_late_reply r Done ≡ true
    late r (inl f) = rw f refl
    late r (inr c) = rw c.1 refl

    by : (b : Bool) → old.killed ≡ b → CallStep old.process old.trace request Done new.trace
    by true dead = record {
      before = old.trace;
      meanwhile = record { others = []; foreign = tt; grown = sym (append-nil old.trace) };
      own = inr (record { why = inl (over dead); late = late request which; same = ap (λ (m : Memory). m.trace) is ∙ (ap (λ b. old.trace ++ cond b [] (event old.process request Done ∷ [])) dead ∙ append-nil old.trace) });
      run = run;
    }
    by false alive =
        let grown : new.trace ≡ old.trace ++ event old.process request Done ∷ [] = ap (λ (m : Memory). m.trace) is ∙ ap (λ b. old.trace ++ cond b [] (event old.process request Done ∷ [])) alive in
        record {
          before = old.trace;
          meanwhile = record { others = []; foreign = tt; grown = sym (append-nil old.trace) };
          own = inl (record { allowed = run_last empty_state old.trace (event old.process request Done) (subst IsRun grown run); grown = grown });
          run = run;
        }

-- the end of a listing as an answer

all_less : (y : List ℕ) (ys : List (List ℕ)) → list_all (λ z. is_lt (slice_cmp nat_cmp y z)) ys ≡ true → AllByRecursion (λ z. slice_cmp nat_cmp y z ≡ Less) ys
all_less y [] h = tt
all_less y (z ∷ zs) h = (less (slice_cmp nat_cmp y z) (and_left (is_lt (slice_cmp nat_cmp y z)) (list_all (λ w. is_lt (slice_cmp nat_cmp y w)) zs) h), all_less y zs (and_right (is_lt (slice_cmp nat_cmp y z)) (list_all (λ w. is_lt (slice_cmp nat_cmp y w)) zs) h))

pub sorted_by : (names : List (List ℕ)) → ascend names ≡ true → IsStrictlySortedBy (slice_cmp nat_cmp) names
unfolding IsStrictlySortedBy
sorted_by [] up = tt
sorted_by (x ∷ xs) up = (all_less x xs (and_left (list_all (λ y. is_lt (slice_cmp nat_cmp x y)) xs) (ascend xs) up), sorted_by xs (and_right (list_all (λ y. is_lt (slice_cmp nat_cmp x y)) xs) (ascend xs) up))

module _ (area : Area) where
  pub names_ordered : (r : Result (List (List ℕ)) DirError) (reply : Reply) → names_reply r ≡ reply → is_end_of (ListArea area) reply ≡ true → IfOk r (λ names. IsStrictlySortedBy (slice_cmp nat_cmp) names)
  names_ordered (Ok names) reply is ends = sorted_by names (subst (λ (x : Reply). is_end_of (ListArea area) x ≡ true) (sym is) ends)
  names_ordered (Err e) reply is ends = tt

  pub names_refused : (r : Result (List (List ℕ)) DirError) (reply : Reply) → names_reply r ≡ reply → is_end_of (ListArea area) reply ≡ true → IfErr r (λ e. may_refuse (ListArea area) e ≡ true)
  names_refused (Ok names) reply is ends = tt
  names_refused (Err e) reply is ends = subst (λ (x : Reply). is_end_of (ListArea area) x ≡ true) (sym is) ends

module _ (inner : Inner) where
  pub items_ordered : (r : Result (List Item) DirError) (reply : Reply) → items_reply r ≡ reply → is_end_of (ListIn inner) reply ≡ true → IfOk r (λ items. IsStrictlySortedBy (slice_cmp nat_cmp) (item_names items))
  items_ordered (Ok items) reply is ends = sorted_by (item_names items) (subst (λ (x : Reply). is_end_of (ListIn inner) x ≡ true) (sym is) ends)
  items_ordered (Err e) reply is ends = tt

  pub items_refused : (r : Result (List Item) DirError) (reply : Reply) → items_reply r ≡ reply → is_end_of (ListIn inner) reply ≡ true → IfErr r (λ e. may_refuse (ListIn inner) e ≡ true)
  items_refused (Ok items) reply is ends = tt
  items_refused (Err e) reply is ends = subst (λ (x : Reply). is_end_of (ListIn inner) x ≡ true) (sym is) ends

-- a listing that fails is counted
pub lists_failed : (old : Memory) (request : Request) (reply : Reply) (new : Memory) (left : ℕ) → FollowsListing old request reply new → is_listing_request request ≡ true → reply ≡ Refused Failed left → Rose old.faults new.faults
lists_failed old request reply new left f asks is = by f
  where
    by : FollowsListing old request reply new → Rose old.faults new.faults
    by (inl l) = rose_if (is_to_fail old request) old.faults new.faults (ap (λ (m : Memory). m.faults) l.after) (l.failed left is)
    by (inr (inl c)) = let clash : Refused NoMemory 0 ≡ Refused Failed left = sym c.replied ∙ is in cc
    by (inr (inr (inl r))) = let clash : Refused NoMemory 0 ≡ Refused Failed left = sym r.replied ∙ is in cc
    by (inr (inr (inr t))) = rose_if true old.faults new.faults (ap (λ (m : Memory). m.faults) t.after) refl
