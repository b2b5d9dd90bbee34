-- The pairs before the chunks that are left are read.
use Rattle.std.proofs.Common.{◌≡◌, ◌*◌, ◌-◌, ◌≤◌, drop}
use Rattle.std.specs.Iterator.Adapters.{enumerate_source, enumerate_count}
use Rattle.std.specs.Slice.Iter.{chunks_rest, chunks_size}
use Rattle.models.specs.Pairs.{most_pairs}
use Rattle.models.proofs.Matchings.PairsRead.{PairsBegun}
use Rattle.models.proofs.pairing.read_pairs.Given as goal

abbrev pub invariant-loop-i : goal.invariant-loop-i
invariant-loop-i l = record {
  size : chunks_size (enumerate_source l.i-iterator) ≡ 2;
  rest : chunks_rest (enumerate_source l.i-iterator) ≡ drop (2 * enumerate_count l.i-iterator) l.bytes;
  few : enumerate_count l.i-iterator ≤ most_pairs;
  begun : PairsBegun l.bytes l.first l.second l.rows l.columns (most_pairs - enumerate_count l.i-iterator) (2 * enumerate_count l.i-iterator);
}
