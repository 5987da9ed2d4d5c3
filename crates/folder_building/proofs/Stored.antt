-- What the reads of a file of the data folder tell of longer times, and of the whole file.
use Rattle.std.proofs.Common.{◌≡◌, ◌⊎◌, inl, inr, ◌≤◌, ◌<◌, ◌↔◌, ℕ, ◌+◌, ◌-◌, Bool, true, false, IsTrue, Option, Some, IsErrOf, Result, Err, get_or, take, drop, List, [], ◌∷◌, ◌++◌, length, refl, sym, ap, subst, ◌∙◌, arith}
use Rattle.std.proofs.lemmas.List.{drop_more, take_more, take-append-drop, length-append, length-take-le}
use Rattle.sha2.specs.Sha512.{sha512}
use Rattle.dir_model.specs.declared.event.Event.{Event}
use Rattle.dir_model.specs.declared.item.Inner.{Inner}
use Rattle.dir_model.specs.declared.request.DirError.{DirError}
use Rattle.dir_model.specs.declared.request.DirError.TheVariants.{Missing, Exists, NotEmpty, Locked, Failed, NoMemory}
use Rattle.dir_model.specs.declared.request.Request.{Request}
use Rattle.dir_model.specs.declared.request.Request.TheVariants.{ReadIn}
use Rattle.dir_model.specs.declared.request.Reply.TheVariants.{Read}
use Rattle.dir_model.specs.Calls.{Extends, AtOwnStep}
use Rattle.dir_model.specs.Replies.{may_refuse, is_fault, read_reply}
use Rattle.dir_model.proofs.Lists.{all_push, all_weaker}
use Rattle.dir_model.proofs.Moments.{at_after, at_before}
use Rattle.dir_trait.specs.DirCalls.{DirAt, DirCall, ExtendsBy, HeldBetween}
use Rattle.dir_trait.specs.Effects.{OnlyAsks}
use Rattle.tree_digest.specs.declared.file_check.FileCheck.{FileCheck}
use Rattle.tree_digest.specs.FileChecks.{HasTaken}
use Rattle.dir_files.specs.Reads.{TellsFile, IsPiece, Piece, joined_pieces, AreTold, IsShort, HasReadSoFar, ReadsNext, WasMissing}
use Rattle.dir_files.proofs.Reading.{told_bytes, missing_call, reads_none, reads_more}
use Rattle.folder_building.specs.declared.plan.Origin.{Origin}
use Rattle.folder_building.specs.declared.plan.PlanEntry.{PlanEntry}
use Rattle.folder_building.specs.declared.plan.Content.{Content}
use Rattle.folder_building.specs.declared.plan.Content.TheVariants.{Directory, Given, Copied}
use Rattle.folder_building.proofs.Reading.{image_path}
use Rattle.folder_building.specs.Sources.{in_image}
use Rattle.folder_building.specs.Stored.{OfStored, WasGone, SeesStoredBytes, ReadsPast, EndsCopy, ReadsOther, WasUnlike, WasLike, HadContent, HadContents, LacksContent, LacksAt}

-- a read was refused without a fault, so nothing stands there
refused_missing : (inner : Inner) (at room : ℕ) (e : DirError) → may_refuse (ReadIn inner at room) e ≡ true → is_fault e ≡ false → e ≡ Missing
refused_missing inner at room Missing may calm = refl
refused_missing inner at room Exists may calm = cc
refused_missing inner at room NotEmpty may calm = cc
refused_missing inner at room Locked may calm = cc
refused_missing inner at room Failed may calm = cc
refused_missing inner at room NoMemory may calm = cc

-- more time before
module _ {asks : Request → Bool} (a b : DirAt) (x : ExtendsBy asks a b) (same : b.process ≡ a.process) where
  missing_after : (inner : Inner) (c : DirAt) → WasMissing inner b c → WasMissing inner a c
  missing_after inner c m = at_after x same m

  told_from : (inner : Inner) (new : List Event) → (pieces : List Piece) → (pieces ≡ [] → ⊥) → AreTold b.process inner b.trace pieces new → AreTold a.process inner a.trace pieces new
  told_from inner new [] some told = absurd (some refl)
  told_from inner new (p ∷ []) some told = record {
    between = a.trace;
    earlier = refl;
    told = at_after x same (subst (λ (l : List Event). AtOwnStep b.process l new (TellsFile inner (IsPiece 0 p.room p.bytes))) told.earlier told.told);
  }
  told_from inner new (p ∷ q ∷ earlier) some told = record {
    between = told.between;
    earlier = told_from inner told.between (q ∷ earlier) (λ none. cc) told.earlier;
    told = subst (λ (me : ℕ). AtOwnStep me told.between new (TellsFile inner (IsPiece (length (joined_pieces (q ∷ earlier))) p.room p.bytes))) same told.told;
  }

-- and behind
told_until : {asks : Request → Bool} (inner : Inner) {other me : ℕ} (old : List Event) {b c : List Event} → Extends asks other b c → (pieces : List Piece) → (pieces ≡ [] → ⊥) → AreTold me inner old pieces b → other ≡ me → AreTold me inner old pieces c
told_until inner old x [] some told same = absurd (some refl)
told_until inner old x (p ∷ earlier) some told same = record { between = told.between; earlier = told.earlier; told = at_before told.told same x }

-- where its end was read, something was
short_some : (pieces : List Piece) → IsShort pieces → pieces ≡ [] → ⊥
short_some [] short none = short
short_some (p ∷ pieces) short none = cc

-- where a file was told to be other than it should, something was read
some_read : (size : ℕ) (P : Type 0) (bytes : List ℕ) (pieces : List Piece) → bytes ≡ joined_pieces pieces → (size < length bytes) ⊎ (IsShort pieces × P) → pieces ≡ [] → ⊥
some_read size P bytes pieces whole (inl more) none = let long : size < length (joined_pieces pieces) = subst (λ (bs : List ℕ). size < length bs) whole more in by pieces none long
  where
    by : (ps : List Piece) → ps ≡ [] → size < length (joined_pieces ps) → ⊥
    by [] none long = omega (arith, long)
    by (p ∷ ps) none long = cc
some_read size P bytes pieces whole (inr ended) none = short_some pieces ended.0 none

module _ {asks : Request → Bool} (a b : DirAt) (x : ExtendsBy asks a b) (same : b.process ≡ a.process) where
  other_after : {inner : Inner} {size : ℕ} {sha : List ℕ} (c : DirAt) → ReadsOther inner size sha b c → ReadsOther inner size sha a c
  other_after {inner} {size} {sha} c r = record {
    bytes = r.bytes;
    reads = record { pieces = r.reads.pieces; whole = r.reads.whole; told = told_from a b x same inner c.trace r.reads.pieces (some_read size _ r.bytes r.reads.pieces r.reads.whole r.other) r.reads.told };
    other = r.other;
  }

  pub unlike_after : {stored : Option Inner} {size : ℕ} {sha : List ℕ} (c : DirAt) → WasUnlike stored size sha b c → WasUnlike stored size sha a c
  unlike_after {stored} {size} {sha} c u inner is = by (u inner is)
    where
      by : WasMissing inner b c ⊎ ReadsOther inner size sha b c → WasMissing inner a c ⊎ ReadsOther inner size sha a c
      by (inl m) = inl (missing_after a b x same inner c m)
      by (inr r) = inr (other_after c r)

  content_after : (stored : Origin → Option Inner) (content : Content) (c : DirAt) → LacksContent stored content b c → LacksContent stored content a c
  content_after stored Directory c h = h
  content_after stored (Given bytes) c h = h
  content_after stored (Copied origin size sha) c h = unlike_after c h

  pub like_after : {stored : Option Inner} {size : ℕ} {sha : List ℕ} (c : DirAt) → WasLike stored size sha b c → WasLike stored size sha a c
  like_after {stored} {size} {sha} c l inner is =
      let r = l inner is in
      record {
        bytes = r.bytes;
        reads = record { pieces = r.reads.pieces; whole = r.reads.whole; told = told_from a b x same inner c.trace r.reads.pieces (short_some r.reads.pieces r.ended) r.reads.told };
        ended = r.ended;
        sized = r.sized;
        hashed = r.hashed;
      }

  had_after : (stored : Origin → Option Inner) (content : Content) (c : DirAt) → HadContent stored content b c → HadContent stored content a c
  had_after stored Directory c h = h
  had_after stored (Given bytes) c h = h
  had_after stored (Copied origin size sha) c h = like_after c h

  pub all_had_after : (stored : Origin → Option Inner) (plan : List PlanEntry) (c : DirAt) → HadContents stored plan b c → HadContents stored plan a c
  all_had_after stored plan c h = all_weaker (λ (e : PlanEntry). HadContent stored e.content b c) (λ (e : PlanEntry). HadContent stored e.content a c) (λ e had. had_after stored e.content c had) plan h

  pub lacks_after : {stored : Origin → Option Inner} {plan : List PlanEntry} {n : ℕ} (c : DirAt) → LacksAt stored plan n b c → LacksAt stored plan n a c
  lacks_after {stored} c l = record { before = l.before; entry = l.entry; rest = l.rest; is = l.is; place = l.place; earlier = all_had_after stored l.before c l.earlier; lacks = content_after stored l.entry.content c l.lacks }

module _ {asks : Request → Bool} (b c : DirAt) (x : ExtendsBy asks b c) where
  other_before : {inner : Inner} {size : ℕ} {sha : List ℕ} {a : DirAt} → b.process ≡ a.process → ReadsOther inner size sha a b → ReadsOther inner size sha a c
  other_before {inner} {size} {sha} {a} same r = record {
    bytes = r.bytes;
    reads = record { pieces = r.reads.pieces; whole = r.reads.whole; told = told_until inner a.trace x r.reads.pieces (some_read size _ r.bytes r.reads.pieces r.reads.whole r.other) r.reads.told same };
    other = r.other;
  }

  unlike_before : {stored : Option Inner} {size : ℕ} {sha : List ℕ} (a : DirAt) → b.process ≡ a.process → WasUnlike stored size sha a b → WasUnlike stored size sha a c
  unlike_before {stored} {size} {sha} a same u inner is = by (u inner is)
    where
      by : WasMissing inner a b ⊎ ReadsOther inner size sha a b → WasMissing inner a c ⊎ ReadsOther inner size sha a c
      by (inl m) = inl (at_before m same x)
      by (inr r) = inr (other_before same r)

  content_before : (stored : Origin → Option Inner) (content : Content) (a : DirAt) → b.process ≡ a.process → LacksContent stored content a b → LacksContent stored content a c
  content_before stored Directory a same h = h
  content_before stored (Given bytes) a same h = h
  content_before stored (Copied origin size sha) a same h = unlike_before a same h

  like_before : {stored : Option Inner} {size : ℕ} {sha : List ℕ} (a : DirAt) → b.process ≡ a.process → WasLike stored size sha a b → WasLike stored size sha a c
  like_before {stored} {size} {sha} a same l inner is =
      let r = l inner is in
      record {
        bytes = r.bytes;
        reads = record { pieces = r.reads.pieces; whole = r.reads.whole; told = told_until inner a.trace x r.reads.pieces (short_some r.reads.pieces r.ended) r.reads.told same };
        ended = r.ended;
        sized = r.sized;
        hashed = r.hashed;
      }

  had_before : (stored : Origin → Option Inner) (content : Content) (a : DirAt) → b.process ≡ a.process → HadContent stored content a b → HadContent stored content a c
  had_before stored Directory a same h = h
  had_before stored (Given bytes) a same h = h
  had_before stored (Copied origin size sha) a same h = like_before a same h

  pub all_had_before : (stored : Origin → Option Inner) (plan : List PlanEntry) (a : DirAt) → b.process ≡ a.process → HadContents stored plan a b → HadContents stored plan a c
  all_had_before stored plan a same h = all_weaker (λ (e : PlanEntry). HadContent stored e.content a b) (λ (e : PlanEntry). HadContent stored e.content a c) (λ e had. had_before stored e.content a same had) plan h

  pub lacks_before : {stored : Origin → Option Inner} {plan : List PlanEntry} {n : ℕ} {a : DirAt} → b.process ≡ a.process → LacksAt stored plan n a b → LacksAt stored plan n a c
  lacks_before {stored} {a = a} same l = record { before = l.before; entry = l.entry; rest = l.rest; is = l.is; place = l.place; earlier = all_had_before stored l.before a same l.earlier; lacks = content_before stored l.entry.content a same l.lacks }

-- one read in images
image_same : (name path : List ℕ) (folder : Option (List ℕ)) (inner : Inner) → folder ≡ Some name → in_image path folder ≡ Some inner → image_path name path ≡ inner
image_same name path folder inner some is =
    let h : Some (image_path name path) ≡ Some inner = subst (λ (f : Option (List ℕ)). in_image path f ≡ Some inner) some is in
    cc

module _ {observed : Bool} {old new : DirAt} (name path : List ℕ) (folder : Option (List ℕ)) (at size : ℕ) (room : List ℕ) (some : folder ≡ Some name) where
  pub image_gone : (r : Result ℕ DirError) (e : DirError) → DirCall observed old (ReadIn (image_path name path) at size) (read_reply room r) new → r ≡ Err e → may_refuse (ReadIn (image_path name path) at size) e ≡ true → is_fault e ≡ false → observed ≡ true → WasGone (in_image path folder) old new
  image_gone r e c is may calm t inner named =
      let gone : IsErrOf r Missing = is ∙ ap Err (refused_missing (image_path name path) at size e may calm) in
      subst (λ (i : Inner). WasMissing i old new) (image_same name path folder inner some named) (missing_call (image_path name path) at size room r c gone t)

  pub image_sees : (n : ℕ) → DirCall observed old (ReadIn (image_path name path) at size) (Read (take n room)) new → observed ≡ true → SeesStoredBytes (in_image path folder) at size (take n room) old new
  image_sees n c t inner named = subst (λ (i : Inner). HeldBetween old new (TellsFile i (IsPiece at size (take n room)))) (image_same name path folder inner some named) (told_bytes (image_path name path) at size t (take n room) c)

-- what was read so far: where the reading has ended, its last piece was short
pub record SoFar (inner : Inner) (more : Bool) (check : FileCheck) (size : ℕ) (sha : List ℕ) (at : ℕ) (old new : DirAt) : Type 0 where
  pub bytes : List ℕ
  pub reads : HasReadSoFar inner old new bytes
  pub counted : length bytes ≡ at
  pub taken : HasTaken check size sha bytes
  pub ended : more ≡ false → IsShort reads.pieces

abbrev pub SeenSoFar : Option Inner → Bool → FileCheck → ℕ → List ℕ → ℕ → DirAt → DirAt → Type 0
SeenSoFar stored more check size sha at old new = OfStored stored (λ inner. SoFar inner more check size sha at old new)

pub seen_none : {stored : Option Inner} {check : FileCheck} {size : ℕ} {sha : List ℕ} {d : DirAt} → HasTaken check size sha [] → SeenSoFar stored true check size sha 0 d d
seen_none taken inner is = record { bytes = []; reads = reads_none; counted = refl; taken = taken; ended = λ e. cc }

-- the next piece
abbrev next_piece : {inner : Inner} {before : List ℕ} {at room : ℕ} {a b c : DirAt} (piece : List ℕ) → HasReadSoFar inner a b before → length before ≡ at → b.process ≡ a.process → HeldBetween b c (TellsFile inner (IsPiece at room piece)) → ReadsNext inner room false before (before ++ piece) b c
next_piece {inner} {before} {at} {room} {a} {b} {c} piece r counted same told = record {
  piece = piece;
  grown = refl;
  short = λ e. cc;
  told = subst (λ (n : ℕ). HeldBetween b c (TellsFile inner (IsPiece n room piece))) (sym counted) told;
}

pub seen_more : {stored : Option Inner} {more : Bool} {x y : FileCheck} {size : ℕ} {sha : List ℕ} {at room : ℕ} {a b c : DirAt} (n : ℕ) (bs : List ℕ) (again : Bool) → SeenSoFar stored more x size sha at a b → b.process ≡ a.process → SeesStoredBytes stored at room (take n bs) b c → n ≤ length bs
    → ((k : ℕ) (s message : List ℕ) → HasTaken x k s message → HasTaken y k s (message ++ take n bs)) → (again ≡ false → n < room) → SeenSoFar stored again y size sha (at + n) a c
seen_more {stored} {more} {x} {y} {size} {sha} {at} {room} {a} {b} {c} n bs again seen same sees within taken short inner is =
    let s = seen inner is in
    let long : length (take n bs) ≡ n = length-take-le n bs within in
    record {
      bytes = s.bytes ++ take n bs;
      reads = reads_more s.reads same (next_piece (take n bs) s.reads s.counted same (sees inner is));
      counted = length-append s.bytes (take n bs) ∙ ap (λ m. m + length (take n bs)) s.counted ∙ ap (λ m. at + m) long;
      taken = taken size sha s.bytes s.taken;
      ended = λ e. subst (λ (m : ℕ). m < room) (sym long) (short e);
    }

-- it was missing, or went on behind its size
pub unlike_past : {stored : Option Inner} {more : Bool} {check : FileCheck} {size : ℕ} {sha : List ℕ} {at : ℕ} {observed : Bool} {asks : Request → Bool} {a b c : DirAt} → observed ≡ true → OnlyAsks observed asks a b → at ≤ size → SeenSoFar stored more check size sha at a b → EndsCopy stored at (size - at) b c → WasUnlike stored size sha a c
unlike_past {stored} {more} {check} {size} {sha} {at} {observed} {asks} {a} {b} {c} t w within seen ends inner is = by (ends inner is)
  where
    by : WasMissing inner b c ⊎ ReadsPast inner at (size - at) b c → WasMissing inner a c ⊎ ReadsOther inner size sha a c
    by (inl m) = inl (missing_after a b (w.extends t) w.same inner c m)
    by (inr p) =
        let s = seen inner is in
        inr (record {
          bytes = s.bytes ++ p.bytes;
          reads = reads_more s.reads w.same (next_piece p.bytes s.reads s.counted w.same p.told);
          other = inl (let long : length (s.bytes ++ p.bytes) ≡ length s.bytes + length p.bytes = length-append s.bytes p.bytes in let more = p.more in let counted = s.counted in omega (arith, within, long, more, counted));
        })

-- it was read to its end, and doesn't match
pub unlike_ended : {stored : Option Inner} {more : Bool} {check : FileCheck} {size : ℕ} {sha : List ℕ} {at : ℕ} {a b : DirAt} (matches : Bool) → more ≡ false → SeenSoFar stored more check size sha at a b → ((k : ℕ) (s message : List ℕ) → HasTaken check k s message → (IsTrue matches ↔ ((length message ≡ k) × (sha512 message ≡ s)))) → matches ≡ false → WasUnlike stored size sha a b
unlike_ended {stored} {more} {check} {size} {sha} {at} {a} {b} matches over seen says never inner is =
    let s = seen inner is in
    inr (record {
      bytes = s.bytes;
      reads = s.reads;
      other = inr (s.ended over, λ long hashed. let found : matches ≡ true = (says size sha s.bytes s.taken).1 (long, hashed) in let clash : true ≡ false = sym found ∙ never in cc);
    })

-- or it matches
pub like_ended : {stored : Option Inner} {more : Bool} {check : FileCheck} {size : ℕ} {sha : List ℕ} {at : ℕ} {a b : DirAt} (matches : Bool) → more ≡ false → SeenSoFar stored more check size sha at a b → ((k : ℕ) (s message : List ℕ) → HasTaken check k s message → (IsTrue matches ↔ ((length message ≡ k) × (sha512 message ≡ s)))) → matches ≡ true → WasLike stored size sha a b
like_ended {stored} {more} {check} {size} {sha} {at} {a} {b} matches over seen says found inner is =
    let s = seen inner is in
    let fits = (says size sha s.bytes s.taken).0 found in
    record { bytes = s.bytes; reads = s.reads; ended = s.ended over; sized = fits.0; hashed = fits.1 }

-- one entry more had its file
pub had_next : {observed : Bool} {asks more : Request → Bool} (stored : Origin → Option Inner) (plan : List PlanEntry) (i : ℕ) (e : PlanEntry) (a b c : DirAt) → i < length plan → e ≡ get_or plan i e → observed ≡ true → OnlyAsks observed asks a b → OnlyAsks observed more b c → HadContents stored (take i plan) a b → HadContent stored e.content b c
    → HadContents stored (take (i + 1) plan) a c
had_next stored plan i e a b c within is t w x had one =
    subst (λ (xs : List PlanEntry). HadContents stored xs a c) (sym (take_more plan i e within ∙ ap (λ (y : PlanEntry). take i plan ++ y ∷ []) (sym is)))
    (all_push (λ (y : PlanEntry). HadContent stored y.content a c) (take i plan) e (all_had_before b c (x.extends t) stored (take i plan) a w.same had) (had_after a b (w.extends t) w.same stored e.content c one))

-- the entry whose file it is
pub lacks_at : {observed : Bool} {asks more : Request → Bool} (stored : Origin → Option Inner) (plan : List PlanEntry) (i : ℕ) (e : PlanEntry) (a b c : DirAt) → i < length plan → e ≡ get_or plan i e → (n : ℕ) → n ≡ i → observed ≡ true → OnlyAsks observed asks a b → OnlyAsks observed more b c → HadContents stored (take i plan) a b → LacksContent stored e.content b c → LacksAt stored plan n a c
lacks_at stored plan i e a b c within is n at t w x had lacks = record {
  before = take i plan;
  entry = e;
  rest = drop (i + 1) plan;
  is = sym (take-append-drop i plan) ∙ ap (λ (xs : List PlanEntry). take i plan ++ xs) (drop_more plan i e within ∙ ap (λ (y : PlanEntry). y ∷ drop (i + 1) plan) (sym is));
  place = length-take-le i plan (omega (arith, within)) ∙ sym at;
  earlier = all_had_before b c (x.extends t) stored (take i plan) a w.same had;
  lacks = content_after a b (w.extends t) w.same stored e.content c lacks;
}

-- a read of more than was left
pub ends_past : {stored : Option Inner} {at left : ℕ} {a b : DirAt} (room n : ℕ) (bs : List ℕ) → n ≤ length bs → left < n → SeesStoredBytes stored at room (take n bs) a b → EndsCopy stored at left a b
ends_past {stored} {at} {left} room n bs within more sees inner is = inr (record { room = room; bytes = take n bs; more = subst (λ (m : ℕ). left < m) (sym (length-take-le n bs within)) more; told = sees inner is })
