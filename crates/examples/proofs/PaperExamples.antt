-- All of the paper's examples, computed or from the files of each.
use mathlib.Core.Path.{refl}
use Rattle.listing.specs.Text.{decimal_in, decimal}
use Rattle.examples.specs.Examples.{PaperExamples}
use Rattle.examples.proofs.SmallFiles.{small_files}
use Rattle.examples.proofs.NumberPool.{number_pool, pool_table, pool_scans_lem}

pub paper_examples : PaperExamples
unfolding decimal decimal_in
paper_examples = record {
  codes = record {
    issues = (refl, refl, refl, refl);
    cancels = (refl, refl, refl, refl);
    collects = (refl, refl, refl, refl);
    delivers = (refl, refl, refl, refl);
    syncs = (refl, refl, refl, refl);
    returns = (refl, refl, refl, refl);
    notes = (refl, refl, refl, refl);
    handovers = (refl, refl, refl, refl);
  };
  kind_bytes = record {
    patterns = refl;
    plain_nodes = (refl, refl, refl, refl);
    nodes_with_body = (refl, refl);
    steps = (refl, refl, refl);
  };
  number_pool = number_pool;
  pool_table = pool_table;
  texts = record { refusal = refl; meets = refl; breaks = refl; one_digit = refl; two_digits = refl; four_digits = refl };
  small_files = small_files;
  pool_scans_lem = pool_scans_lem;
}
