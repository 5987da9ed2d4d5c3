-- No two listings have one text.
use Rattle.std.proofs.Common.{◌≡◌, ℕ, ◌+◌, ◌/◌, ◌%◌, ◌<◌, List, [], ◌∷◌, ◌++◌, length, get_or, sym, refl, ap, ◌∙◌, arith, length-append}
use Rattle.std.specs.List.{All}
use Rattle.std.proofs.Math.Path.{ap₂}
use Rattle.hex.specs.Hex.{encode_lower, decode_of}
use Rattle.hex.proofs.HexLemmas.{decode_of-encode_lower, decode_of-same}
use Rattle.path_map.specs.declared.entry.Meta.{Meta}
use Rattle.path_map.specs.declared.entry.Entry.{Entry}
use Rattle.path_map.specs.declared.entry.Entry.TheVariants.{Dir, File, Link}
use Rattle.path_map.specs.Paths.{IsAbsPath}
use Rattle.tree_digest.specs.declared.line.ListingLine.{ListingLine}
use Rattle.tree_digest.specs.Fields.{octal_text, decimal_text, escaped, field}
use Rattle.tree_digest.specs.Lines.{IsLine, IsMeta, IsEntry, meta_text, entry_text, line_fields, line_text}
use Rattle.tree_digest.specs.Listings.{AllFollow, listing_text}
use Rattle.tree_digest.proofs.Cuts.{cut_once, octal_clear, decimal_clear, hex_clear_space, escaped_clear_space}
use Rattle.tree_digest.proofs.Decimals.{decimal_same}
use Rattle.tree_digest.proofs.Texts.{escaped_same, byte_at}
use Rattle.tree_digest.proofs.LineTexts.{entry_clear}
use Rattle.tree_digest.proofs.ListingTexts.{line_some}
use Rattle.tree_digest.proofs.Takes.{line_then}

-- no two modes have one text
octal_same : (m n : ℕ) → m < 4096 → n < 4096 → octal_text m ≡ octal_text n → m ≡ n
octal_same m n h k e =
    let a : 48 + m / 512 ≡ 48 + n / 512 = ap (λ (t : List ℕ). get_or t 0 0) e in
    let b : 48 + m / 64 % 8 ≡ 48 + n / 64 % 8 = ap (λ (t : List ℕ). get_or t 1 0) e in
    let c : 48 + m / 8 % 8 ≡ 48 + n / 8 % 8 = ap (λ (t : List ℕ). get_or t 2 0) e in
    let d : 48 + m % 8 ≡ 48 + n % 8 = ap (λ (t : List ℕ). get_or t 3 0) e in
    omega arith

-- no two SHA-512 have one text
hex_same : (a b : List ℕ) → All (λ x. x < 256) a → All (λ x. x < 256) b → encode_lower a ≡ encode_lower b → a ≡ b
hex_same a b h k e =
    decode_of-same (encode_lower a) a b (decode_of-encode_lower a (byte_at a h)) (ap decode_of e ∙ decode_of-encode_lower b (byte_at b k))

meta_same : (m n : Meta) (a b : List ℕ) → IsMeta m → IsMeta n → meta_text m a ≡ meta_text n b → (m ≡ n) × (a ≡ b)
meta_same m n a b h k e =
    let first = cut_once 32 (octal_text m.mode) (field (decimal_text m.uid) (field (decimal_text m.gid) a)) (octal_text n.mode) (field (decimal_text n.uid) (field (decimal_text n.gid) b)) (octal_clear 32 m.mode (omega arith)) (octal_clear 32 n.mode (omega arith)) e in
    let second = cut_once 32 (decimal_text m.uid) (field (decimal_text m.gid) a) (decimal_text n.uid) (field (decimal_text n.gid) b) (decimal_clear 32 m.uid (omega arith)) (decimal_clear 32 n.uid (omega arith)) first.1 in
    let third = cut_once 32 (decimal_text m.gid) a (decimal_text n.gid) b (decimal_clear 32 m.gid (omega arith)) (decimal_clear 32 n.gid (omega arith)) second.1 in
    let mode : m.mode ≡ n.mode = octal_same m.mode n.mode h.mode k.mode first.0 in
    let uid : m.uid ≡ n.uid = decimal_same m.uid n.uid second.0 in
    let gid : m.gid ≡ n.gid = decimal_same m.gid n.gid third.0 in
    (ap (λ (x : ℕ). record { mode = x; uid = m.uid; gid = m.gid }) mode ∙ ap (λ (x : ℕ). record { mode = n.mode; uid = x; gid = m.gid }) uid ∙ ap (λ (x : ℕ). record { mode = n.mode; uid = n.uid; gid = x }) gid, third.1)

entry_same : (e f : Entry) (p q : List ℕ) → IsEntry e → IsEntry f → IsAbsPath p → IsAbsPath q → entry_text e (escaped p) ≡ entry_text f (escaped q) → (e ≡ f) × (p ≡ q)
entry_same (Dir m) (Dir n) p q h k hp hq e =
    let rest : meta_text m (escaped p) ≡ meta_text n (escaped q) = cc in
    let both = meta_same m n (escaped p) (escaped q) h k rest in
    (ap (λ x. Dir x) both.0, escaped_same p q hp.text hq.text both.1)
entry_same (Dir m) (File n size sha) p q h k hp hq e = absurd (omega (arith, ap (λ (t : List ℕ). get_or t 0 0) e))
entry_same (Dir m) (Link n target) p q h k hp hq e = absurd (omega (arith, ap (λ (t : List ℕ). get_or t 0 0) e))
entry_same (File m size sha) (Dir n) p q h k hp hq e = absurd (omega (arith, ap (λ (t : List ℕ). get_or t 0 0) e))
entry_same (File m size sha) (File n big dig) p q h k hp hq e =
    let rest : meta_text m (field (decimal_text size) (field (encode_lower sha) (escaped p))) ≡ meta_text n (field (decimal_text big) (field (encode_lower dig) (escaped q))) = cc in
    let both = meta_same m n (field (decimal_text size) (field (encode_lower sha) (escaped p))) (field (decimal_text big) (field (encode_lower dig) (escaped q))) h.0 k.0 rest in
    let sizes = cut_once 32 (decimal_text size) (field (encode_lower sha) (escaped p)) (decimal_text big) (field (encode_lower dig) (escaped q)) (decimal_clear 32 size (omega arith)) (decimal_clear 32 big (omega arith)) both.1 in
    let digests = cut_once 32 (encode_lower sha) (escaped p) (encode_lower dig) (escaped q) (hex_clear_space sha) (hex_clear_space dig) sizes.1 in
    (ap (λ x. File x size sha) both.0 ∙ ap (λ x. File n x sha) (decimal_same size big sizes.0) ∙ ap (λ x. File n big x) (hex_same sha dig h.2 k.2 digests.0), escaped_same p q hp.text hq.text digests.1)
entry_same (File m size sha) (Link n target) p q h k hp hq e = absurd (omega (arith, ap (λ (t : List ℕ). get_or t 0 0) e))
entry_same (Link m target) (Dir n) p q h k hp hq e = absurd (omega (arith, ap (λ (t : List ℕ). get_or t 0 0) e))
entry_same (Link m target) (File n size sha) p q h k hp hq e = absurd (omega (arith, ap (λ (t : List ℕ). get_or t 0 0) e))
entry_same (Link m target) (Link n other) p q h k hp hq e =
    let rest : meta_text m (field (escaped target) (escaped p)) ≡ meta_text n (field (escaped other) (escaped q)) = cc in
    let both = meta_same m n (field (escaped target) (escaped p)) (field (escaped other) (escaped q)) h.0 k.0 rest in
    let targets = cut_once 32 (escaped target) (escaped p) (escaped other) (escaped q) (escaped_clear_space target) (escaped_clear_space other) both.1 in
    (ap (λ x. Link x target) both.0 ∙ ap (λ x. Link n x) (escaped_same target other h.1.text k.1.text targets.0), escaped_same p q hp.text hq.text targets.1)

-- a text has at most one first line
pub first_line_same : (l m : ListingLine) (a b : List ℕ) → IsLine l → IsLine m → line_text l ++ a ≡ line_text m ++ b → (l ≡ m) × (a ≡ b)
first_line_same l m a b h k e =
    let once = cut_once 10 (line_fields l) a (line_fields m) b (entry_clear l.entry l.path) (entry_clear m.entry m.path) (sym (line_then l a) ∙ e ∙ line_then m b) in
    let both = entry_same l.entry m.entry l.path m.path h.entry k.entry h.path k.path once.0 in
    (ap₂ (λ (p : List ℕ) (x : Entry). record { path = p; entry = x }) both.1 both.0, once.1)

-- no two listings have one text
pub one_text_by : (b c xs ys : List ListingLine) → AllFollow b xs → AllFollow c ys → listing_text xs ≡ listing_text ys → xs ≡ ys
one_text_by b c [] [] h k e = refl
one_text_by b c [] (y ∷ ys) h k e = absurd (omega (arith, ap length e, length-append (line_text y) (listing_text ys), line_some y))
one_text_by b c (x ∷ xs) [] h k e = absurd (omega (arith, ap length e, length-append (line_text x) (listing_text xs), line_some x))
one_text_by b c (x ∷ xs) (y ∷ ys) h k e =
    let first = first_line_same x y (listing_text xs) (listing_text ys) h.0.line k.0.line e in
    let others : xs ≡ ys = one_text_by (b ++ x ∷ []) (c ++ y ∷ []) xs ys h.1 k.1 first.1 in
    let here : x ≡ y = first.0 in
    cc

pub no_two_listings_have_one_text : (xs ys : List ListingLine) → AllFollow [] xs → AllFollow [] ys → listing_text xs ≡ listing_text ys → xs ≡ ys
no_two_listings_have_one_text xs ys h k e = one_text_by [] [] xs ys h k e
