-- The runs of a row are the longest runs of one entry, in order, and say what the table answers. By induction over the codes that may still follow: the first
-- run goes as far as its entry, so that the next one begins with another.
use mathlib.Core.Path.{◌≡◌, refl, sym, ap, ◌∙◌}
use mathlib.Core.Bool.{Bool, true, false}
use mathlib.Core.List.{List, ◌∷◌}
use Prim.Native.Nat.{ℕ, zero, suc, ◌+◌, ◌≤◌, ◌<◌}
use native.Mathlib.Omega.{arith}
use lib.Dec.{ltb}
use lib.ListN.{length, get_or, drop}
use borrow.Author.Tests.{ltb-true, ltb-false}
use Rattle.reading.specs.Rule.{All}
use Rattle.reading.proofs.Basics.AllLaws.{all_map}
use Rattle.reading.proofs.Basics.ListLaws.{get_or-inside}
use Rattle.synthesis.specs.Monitor.{mark, row_of, meaning}
use Rattle.listing.specs.Runs.{CodeRun, code_run, runs_from, runs, RunTo}
use Rattle.listing.specs.Promises.{Longest, Consecutive, Groups, ShowsAnswers}
use Rattle.listing.proofs.RunLaws.{first_run, no_runs, some_run}

-- ---- the runs of a row

module _ (row : List ℕ) where
  -- the entry before code c is another than that at c
  abbrev Begins : ℕ → Type 0
  Begins c = (d : ℕ) → suc d ≡ c → c < length row → get_or row d 0 ≡ get_or row c 0 → ⊥

  -- what is to be shown of the runs from code c on
  record Grouped (c : ℕ) (rs : List CodeRun) : Type 0 where
    longest : All (Longest row) rs
    consecutive : Consecutive c (length row) rs

  grouped_cons : (c last : ℕ) → Begins c → RunTo row c last → (rs : List CodeRun) → Grouped (suc last) rs → Grouped c (code_run c last (get_or row c 0) ∷ rs)
  grouped_cons c last b r rs g = record {
    longest = (record { entry = refl; reaches = r; begins = λ d e same. b d e (omega (arith, r.some, r.inside)) same }, g.longest);
    consecutive = (refl, g.consecutive);
  }

  next_begins : (c last : ℕ) → RunTo row c last → Begins (suc last)
  next_begins c last r d e h same =
      let is : d ≡ last = omega arith in
      r.ends h (sym same ∙ rw is (r.same last r.some (omega arith)))

  -- at most `more` codes follow
  grouped_from : (more c : ℕ) → c ≤ length row → length row ≤ c + more → Begins c → Grouped c (runs_from c (drop c row))
  grouped_from zero c h l b = rw (no_runs row c (omega arith)) (record { longest = tt; consecutive = omega arith })
  grouped_from (suc more) c h l b = on (ltb c (length row)) refl
      (λ last r. grouped_from more (suc last) r.inside (omega (arith, r.some)) (next_begins c last r))
    where
      on : (a : Bool) → ltb c (length row) ≡ a
          → ((last : ℕ) → RunTo row c last → Grouped (suc last) (runs_from (suc last) (drop (suc last) row))) → Grouped c (runs_from c (drop c row))
      on true e rest =
          let (last, r) = some_run row c (ltb-true c (length row) e) in
          rw (first_run row c last r) (grouped_cons c last b r _ (rest last r))
      on false e rest =
          let past = ltb-false c (length row) e in
          rw (no_runs row c past) (record { longest = tt; consecutive = omega arith })

  pub groups : Groups row
  groups =
      let g = grouped_from (length row) 0 (omega arith) (omega arith) (λ d e. absurd (omega arith)) in
      record { longest = g.longest; consecutive = g.consecutive }

-- ---- what the table answers

pub shows_answers : ShowsAnswers
shows_answers table k =
    let row = row_of 256 table k in
    all_map (runs row) (λ r longest c h l.
    let reaches = longest.reaches in
    ap (meaning mark) (get_or-inside row c mark 0 (omega (arith, reaches.inside)) ∙ reaches.same c h l ∙ sym longest.entry))
    (groups row).longest
