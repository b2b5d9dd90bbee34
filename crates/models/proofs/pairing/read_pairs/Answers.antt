-- A pair is refused, or one pair more is read, and in the end all of them.
use Rattle.std.proofs.Common.{◌≡◌, ◌+◌, ◌*◌, ◌-◌, refl, ◌∙◌, drop, arith}
use Rattle.std.specs.Iterator.Adapters.{enumerate_source, enumerate_count}
use Rattle.std.specs.Slice.Iter.{chunks_rest}
use Rattle.reading.proofs.Basics.Results.{passed_up}
use Rattle.models.specs.Pairs.{Pair, most_pairs}
use Rattle.models.proofs.Matchings.PairChecks.{pair_stands, states_tell}
use Rattle.models.proofs.Matchings.PairsRead.{PairsBegun, chunk_is, chunk_inside, chunk_after, chunks_over, begun_none, begun_one, all_related, refused_related}
use Rattle.models.proofs.pairing.read_pairs.Goals as goal

pub loop-i-init : goal.loop-i-init
loop-i-init c =
    let e = c.enumerate-i-items.ensures in
    rw (c.into_iter-i-iterator.ensures.into_iter_gives, e.source, e.count)
    (record { size = c.chunks.ensures.size; rest = c.chunks.ensures.rest; few = omega arith; begun = begun_none _ _ _ })

pub returns-in_err-x : goal.returns-in_err-x
returns-in_err-x c =
    let turn = c.in-Some.ensures.steps in
    let so_far = c.loop-i.invariant in
    let rest : chunks_rest (enumerate_source c.loop-i.i-iterator) ≡ drop (2 * c.in-Some.i) c.args.bytes.now = rw turn.1 so_far.rest in
    let begun : PairsBegun c.args.bytes.now c.args.first c.args.second c.loop-i.rows c.loop-i.columns (most_pairs - c.in-Some.i) (2 * c.in-Some.i) =
    rw turn.1 so_far.begun in
    refused_related begun (chunk_inside c.args.bytes.now (2 * c.in-Some.i) _ _ rest so_far.size turn.0.1)
    (c.in_err-x.ensures c.args.bytes.now (chunk_is c.args.bytes.now (2 * c.in-Some.i) _ _ rest so_far.size turn.0.1)) _
    (passed_up _ _ c.from_residual.ensures.1 refl)

pub loop-i-preserved : goal.loop-i-preserved
loop-i-preserved c =
    let turn = c.in-Some.ensures.steps in
    let so_far = c.loop-i.invariant in
    let rest : chunks_rest (enumerate_source c.loop-i.i-iterator) ≡ drop (2 * c.in-Some.i) c.args.bytes.now = rw turn.1 so_far.rest in
    let begun : PairsBegun c.args.bytes.now c.args.first c.args.second c.loop-i.rows c.loop-i.columns (most_pairs - c.in-Some.i) (2 * c.in-Some.i) =
    rw turn.1 so_far.begun in
    let pair : Pair = record { first = c.in_ok-x.x; second = c.in_ok-x.y } in
    let is_pair = states_tell _ (c.in_ok-x.ensures c.args.bytes.now (chunk_is c.args.bytes.now (2 * c.in-Some.i) _ _ rest so_far.size turn.0.1)) in
    let stands = pair_stands c.args.bytes.now c.args.first c.args.second (2 * c.in-Some.i) (most_pairs - c.in-Some.i) pair is_pair in
    let inside = chunk_inside c.args.bytes.now (2 * c.in-Some.i) _ _ rest so_far.size turn.0.1 in
    let after = chunk_after c.args.bytes.now (2 * c.in-Some.i) _ _ rest so_far.size turn.0.1 stands.whole in
    let next : 2 * enumerate_count c.next.new.self ≡ 2 * c.in-Some.i + 2 = omega (arith, turn.1, turn.2) in
    let left : most_pairs - enumerate_count c.next.new.self ≡ most_pairs - c.in-Some.i - 1 = omega (arith, turn.1, turn.2) in
    record {
      size = turn.0.0 ∙ so_far.size;
      rest = after ∙ rw next;
      few = omega (arith, turn.1, turn.2, stands.some_left);
      begun =
          rw (next, left, c.from.ensures, c.from-in-loop-i.ensures)
          (begun_one begun c.requires.0 c.requires.1 inside pair is_pair);
    }

pub returns : goal.returns
returns c = all_related c.loop-i.invariant.begun (chunks_over _ _ c.loop-i.invariant.rest c.in-None.ensures.steps.0.1.0)
