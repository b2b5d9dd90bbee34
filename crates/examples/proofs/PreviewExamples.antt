-- What the desk answers to each file is known from the other examples. The page shows it where it is a count of at most 32, and refuses as the desk does, but
-- with 18 for 9 and for a count over 32.
use Prim.Native.Nat.{ℕ, suc, ◌≤◌, ◌<◌}
use mathlib.Core.Path.{◌≡◌, refl, sym, ◌∙◌, subst}
use mathlib.Core.List.{List, [], ◌∷◌}
use native.Mathlib.Omega.{arith}
use Rattle.synthesis.specs.Monitor.{most}
use Rattle.synthesis.specs.Building.{synthesis_of, counted_of, preview_limit, preview_of}
use Rattle.synthesis.proofs.Tables.SynthesisOutcomes.{fills_as_counted}
use Rattle.synthesis.proofs.Tables.Previews.{preview_counts, preview_fills_as_counted, preview_agrees}
use Rattle.synthesis.proofs.Tables.PreviewRefusals.{preview_refuses, desk_shows_more}
use Rattle.examples.specs.Examples.{pool_file, PoolTable}
use Rattle.examples.specs.FamilyExamples.{chain_file, window_file}
use Rattle.examples.specs.PreviewExamples.{ShownOnPage, RefusedOnPage, ShownAtDeskOnly, PreviewExamples}
use Rattle.examples.proofs.SmallFiles.{small_files}
use Rattle.examples.proofs.NumberPool.{number_pool, pool_table}
use Rattle.examples.proofs.RefusalExamples.{refusal_examples}
use Rattle.examples.proofs.TableExamples.{needs}
use Rattle.examples.proofs.FamilyExamples.{family_examples}
use Rattle.reading.specs.File.{Outcome, accepted, refused}

module _ (s : List ℕ) where
  shown : (n : ℕ) → counted_of (synthesis_of most s) ≡ accepted n → n ≤ preview_limit → ShownOnPage s n
  shown n desk few =
      let page = (preview_counts s n).1 (desk, few) in
      record { page = page; filling = needs (preview_fills_as_counted s) n page; desk = desk }

  -- filling is refused as counting is
  refused_on_page : (number place : ℕ) → counted_of (preview_of s) ≡ refused number place → RefusedOnPage s number place
  refused_on_page number place e =
      record { counting = e; filling = λ capacity. (preview_fills_as_counted s capacity).refused number place e }

  as_at_desk : (number place : ℕ) → (number ≡ 9 → ⊥) → counted_of (synthesis_of most s) ≡ refused number place → RefusedOnPage s number place
  as_at_desk number place other e = refused_on_page number place ((preview_refuses s).other_at_desk number place other e)

  eighteen : (n : ℕ) → counted_of (synthesis_of most s) ≡ accepted n → preview_limit < n → counted_of (preview_of s) ≡ refused 18 0
  eighteen n desk over = on (counted_of (preview_of s)) refl
    where
      on : (answer : Outcome ℕ) → counted_of (preview_of s) ≡ answer → answer ≡ refused 18 0
      on (accepted k) e =
          let (same, few) = (preview_counts s k).0 e in
          let z : accepted n ≡ accepted k = sym desk ∙ same in
          let w : n ≡ k = cc in
          absurd (omega arith)
      on (refused number place) e = let (is-18, is_0, many) = (desk_shows_more s).0 n number place desk e in rw (is-18, is_0)

  pub at_desk-only : (n : ℕ) → counted_of (synthesis_of most s) ≡ accepted n → preview_limit < n → ShownAtDeskOnly s n
  at_desk-only n desk over =
      record { desk = desk; filling = needs (fills_as_counted most s) n desk; page = refused_on_page 18 0 (eighteen n desk over) }

chain_counted : (n : ℕ) → n ≤ 63 → counted_of (synthesis_of most (chain_file n)) ≡ accepted (suc n)
chain_counted n few = (family_examples.chains n few).answers.counting

pub preview_examples : PreviewExamples
preview_examples = record {
  chain_31 = shown (chain_file 31) 32 (chain_counted 31 (omega arith)) (omega arith);
  chain_32 = at_desk-only (chain_file 32) 33 (chain_counted 32 (omega arith)) (omega arith);
  chain_63 = at_desk-only (chain_file 63) 64 (chain_counted 63 (omega arith)) (omega arith);
  chain_64 = as_at_desk (chain_file 64) 4 132 (λ e. omega arith) refusal_examples.rules.node_65.answers.counting;
  window_7 = at_desk-only (window_file 7) 128 family_examples.window_7.answers.counting (omega arith);
  window_9 = at_desk-only (window_file 9) 512 family_examples.window_9.answers.counting (omega arith);
  window_10 = refused_on_page (window_file 10) 18 0 ((preview_refuses (window_file 10)).nine_at_desk 0 family_examples.window_10.answers.counting);
  pool = pool;
  pool_table = λ table room. subst PoolTable (sym ((preview_agrees pool_file 3 pool.page).table table)) (pool_table table room);
  empty = as_at_desk [] 1 0 (λ e. omega arith) small_files.empty.answers.counting;
  not_guarded = as_at_desk (6 ∷ 7 ∷ 0 ∷ []) 7 1 (λ e. omega arith) small_files.not_guarded.answers.counting;
  falsity_alone = as_at_desk (3 ∷ []) 8 0 (λ e. omega arith) small_files.falsity_alone.answers.counting;
}
  where
    pool : ShownOnPage pool_file 3
    pool = shown pool_file 3 number_pool.file.answers.counting (omega arith)
