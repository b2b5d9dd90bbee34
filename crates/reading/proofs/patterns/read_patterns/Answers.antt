-- The way out says what the array has.
use Rattle.std.proofs.Common.{refl, sym, ◌∙◌}
use Rattle.std.proofs.lemmas.Result.{err_from_is_err_and}
use Rattle.reading.specs.Numbered.{no_pattern}
use Rattle.reading.proofs.Measures.Extents.{no_extent_lem}
use Rattle.reading.proofs.Functions.Heads.{patterns_begun_none, patterns_begun_all, patterns_begun_refused}
use Rattle.reading.proofs.patterns.read_patterns.Goals as goal

pub loop-list-init : goal.loop-list-init
loop-list-init c = rw (c.extent.ensures, no_extent_lem no_pattern refl) (patterns_begun_none c.args.bytes.now)

pub returns-in_err-pattern : goal.returns-in_err-pattern
returns-in_err-pattern c =
    let p = err_from_is_err_and c.from_residual.result c.from_residual.ensures.1 in
    rw (p.1, p.2) (patterns_begun_refused _ _ _ _ c.loop-list.invariant (sym c.is_pattern.ensures ∙ c.loop-list-test.true) (sym c.in_err-pattern.ensures))

pub returns : goal.returns
returns c = patterns_begun_all _ _ _ _ c.loop-list.invariant (sym c.is_pattern.ensures ∙ c.loop-list-test.false)
