use Rattle.std.proofs.Common.{sym, ◌∙◌}
use Rattle.pod_files.proofs.Tokens.{token_utf8}
use Rattle.pod_files.proofs.token.token_of.Goals as goal

pub unreachable-requires : goal.unreachable-requires
unreachable-requires c = c.in-Err.ensures.cases.0 (token_utf8 c.args.bytes.now (sym c.is_token.ensures ∙ c.if-not-is_token.false))
