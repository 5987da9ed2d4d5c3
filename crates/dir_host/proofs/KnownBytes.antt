-- Bytes that a reader is known to give, over several reads.
use Rattle.std.proofs.Common.{ℕ, List, ◌++◌, Option, Some, None, append_assoc, sym, ap, ◌∙◌}
use Rattle.std.specs.Io.KnownBytes.{Consumes}

pub consumes_more : (a b c : Option (List ℕ)) (xs ys : List ℕ) → Consumes a b xs → Consumes b c ys → Consumes a c (xs ++ ys)
consumes_more None b c xs ys first next = tt
consumes_more (Some us) None c xs ys first next = absurd first
consumes_more (Some us) (Some vs) None xs ys first next = next
consumes_more (Some us) (Some vs) (Some ws) xs ys first next = first ∙ (ap (λ l. xs ++ l) next ∙ sym (append_assoc xs ys ws))
