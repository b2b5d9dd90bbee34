-- What this crate promises, as statements over the definitions; proofs/ has a theorem of each of these types.
use Rattle.std.specs.Prelude.{ℕ, suc, ◌+◌, ◌-◌, ◌*◌, ◌/◌, ◌%◌, ◌^◌, ◌≤◌, ◌<◌, min, ◌≡◌, ◌↔◌, ◌⊎◌, Bool, true, false, List, [], map, length, get_or, take, ltb}
use Rattle.std.specs.Prelude.{Some, None, Result}
use Rattle.std.specs.Int.Count.{ones, count_trailing_zeros}
use Rattle.reading.specs.Pattern.{code_of, kind_of, slot_of, bit, named, IsSlotSet, covers, least, count_below, extent_of}
use Rattle.reading.specs.Pattern.{lowest_slot, slot_width, WellFormedPattern}
use Rattle.reading.specs.Rule.{Formula, symbol_of, size, WellFormed, Rule, RuleWithinLimits, kind_byte, encode, Bytes}
use Rattle.reading.specs.File.{Outcome, accepted, refused, rule_of}
use Rattle.reading.specs.Refusals.{number, as_outcome}
use Rattle.reading.specs.Faults.{Fault, Unfinished, KindAt, IsPattern}
use Rattle.reading.specs.Numbered.{node_of, number_of, node_kind, node_argument, argument, listed, no_pattern, none_listed, numbered, reading_of}
use Rattle.reading.specs.Nodes.{EnclosingMax, Node, guards_at, Resolves}
use Rattle.reading.specs.declared.Pattern.{Pattern}
use Rattle.reading.specs.declared.Node.TheVariants.{Truth}
use Rattle.reading.specs.declared.NumberedRule.{NumberedRule}
use Rattle.reading.specs.declared.refusals.Fault.{Fault as Fault'}
use Rattle.reading.specs.declared.refusals.Refusal.{Refusal}

-- 1. A file is accepted exactly as the encoding of a well-formed rule within the limits, and then as that rule.
abbrev pub AcceptsEncodings : Type 0
AcceptsEncodings = (s : List ℕ) → Bytes s → (r : Rule) → (rule_of s ≡ accepted r) ↔ (RuleWithinLimits r × (s ≡ encode r))

-- So one file has one rule.
abbrev pub OneRule : Type 0
OneRule = (r r' : Rule) → RuleWithinLimits r → RuleWithinLimits r' → encode r ≡ encode r' → r ≡ r'

-- In terms of what `read_rule` ensures: it accepts exactly encodings of well-formed rules, with that rule by number.
abbrev pub AnswersAccepted : Type 0
AnswersAccepted =
    (s : List ℕ) → Bytes s → (n : NumberedRule) → (reading_of (rule_of s) ≡ accepted n)
    ↔ ((r : Rule) × RuleWithinLimits r × (s ≡ encode r) × (n ≡ numbered r))

-- A file is refused with a number at a place exactly where a clause of `Fault` has it so.
abbrev pub RefusesAtTheFault : Type 0
RefusesAtTheFault =
    (s : List ℕ) → Bytes s → (number place : ℕ) → (reading_of (rule_of s) ≡ refused number place) ↔ Fault s number place

-- So no two of its clauses differ in number or place, and none holds exactly where the file is accepted.
pub record OneFault {A : Type 0} (said : Outcome A) (Holds : (number place : ℕ) → Type 0) : Type 0 where
  pub one : {number place number' place' : ℕ} → Holds number place → Holds number' place' → (number ≡ number') × (place ≡ place')
  pub none : ((x : A) × (said ≡ accepted x)) ↔ ((number place : ℕ) → Holds number place → ⊥)

abbrev pub HasOneFault : Type 0
HasOneFault = (s : List ℕ) → Bytes s → OneFault (reading_of (rule_of s)) (Fault s)

-- 5 in words: where a pattern may come next and a whole record of one stands, the file is refused with 5 there exactly where that record has a slot over
-- 31, whatever its mask.
abbrev pub RefusesPattern : Type 0
RefusesPattern =
    (s : List ℕ) → Bytes s → (at n : ℕ) → Unfinished s at n 0 → KindAt s at IsPattern → n < 32 → at + 4 ≤ length s
    → (reading_of (rule_of s) ≡ refused 5 at) ↔ ((31 < get_or s (at + 2) 0) ⊎ (31 < get_or s (at + 3) 0))

-- 2. The numbered nodes are those of the tree: each number below the size names one node, and what stands at that number
-- says its formula, its parts by their numbers, and the max of a variable. Its kind is the byte with which the formula's record begins in the file, and its
-- argument is that of the formula. Each node is well formed where it stands.
pub record NumbersNodes (r : Rule) : Type 0 where
  pub counted : (numbered r).nnodes ≡ size r.formula
  pub exists : (k : ℕ) → k < size r.formula → (ms : List EnclosingMax) × (f : Formula) × Node r.formula k ms f
  pub unique : {k : ℕ} {ms ms' : List EnclosingMax} {f f' : Formula} → Node r.formula k ms f → Node r.formula k ms' f'
      → (ms ≡ ms') × (f ≡ f')
  pub fits : {k : ℕ} {ms : List EnclosingMax} {f : Formula} → Node r.formula k ms f → k + size f ≤ size r.formula
  pub node_is : {k : ℕ} {ms : List EnclosingMax} {f : Formula} → Node r.formula k ms f
      → get_or (numbered r).nodes k Truth ≡ node_of k (map number_of ms) f
  pub kind_is : {k : ℕ} {ms : List EnclosingMax} {f : Formula} → Node r.formula k ms f
      → node_kind (get_or (numbered r).nodes k Truth) ≡ kind_byte (symbol_of f)
  pub argument_is : {k : ℕ} {ms : List EnclosingMax} {f : Formula} → Node r.formula k ms f
      → node_argument (get_or (numbered r).nodes k Truth) ≡ argument k (map number_of ms) f
  pub well_formed : {k : ℕ} {ms : List EnclosingMax} {f : Formula} (n : ℕ) → WellFormed n [] r.formula → (node : Node r.formula k ms f)
      → WellFormed n (guards_at node) f × (length (guards_at node) ≡ length ms)
  pub resolves : {k : ℕ} {ms : List EnclosingMax} {f : Formula} (n : ℕ) → WellFormed n [] r.formula → Node r.formula k ms f
      → Resolves r.formula k ms (get_or (numbered r).nodes k Truth) f

-- and the numbered patterns those of the rule
pub record NumbersPatterns (r : Rule) : Type 0 where
  pub counted : (numbered r).npatterns ≡ length r.patterns
  pub pattern : (i : ℕ) → get_or (numbered r).patterns i none_listed ≡ listed (get_or r.patterns i no_pattern)

-- 3. What a file says is settled by its first 257 bytes, and not by 256.
abbrev pub SettledByFirstBytes : Type 0
SettledByFirstBytes = (s : List ℕ) (n : ℕ) → 257 ≤ n → rule_of (take n s) ≡ rule_of s

abbrev pub NotByFewer : Type 0
NotByFewer = (s : List ℕ) × Bytes s × (rule_of (take 256 s) ≡ refused 1 256) × (rule_of s ≡ refused 4 256)

-- 4. The bits of a number are its binary digits: the lowest is the number modulo 2, and those above are the bits of its half.
pub record BinaryDigits : Type 0 where
  pub lowest : (n : ℕ) → bit 0 n ≡ n % 2
  pub above : (i n : ℕ) → bit (suc i) n ≡ bit i (n / 2)

-- 5. What a pattern covers: the codes of its kinds with the slots from first to last, or, where first is over last, with those from first on and with
-- those up to last.
abbrev pub Names : (first last slot : ℕ) → Type 0
Names first last slot = ((first ≤ last) × (first ≤ slot) × (slot ≤ last)) ⊎ ((last < first) × ((first ≤ slot) ⊎ (slot ≤ last)))

abbrev pub Covered : Pattern → (code : ℕ) → Type 0
Covered p code = (bit (kind_of code) p.mask ≡ 1) × Names p.first p.last (slot_of code)

abbrev pub CoversMeans : Type 0
CoversMeans = (p : Pattern) (code : ℕ) → (covers p code ≡ true) ↔ Covered p code

-- The same without the two cases, where both are slots, in a ring in which 0 comes after 31: one counts up from first, and comes to last before any
-- slot comes again.
pub record GoesRound (p : Pattern) : Type 0 where
  pub counted : (kind slot : ℕ) → slot ≤ 31 → (covers p (code_of kind slot) ≡ true)
      ↔ ((bit kind p.mask ≡ 1) × (k : ℕ) × (k < slot_width p.first p.last) × ((p.first + k) % 32 ≡ slot))
  pub to_last : (p.first + (slot_width p.first p.last - 1)) % 32 ≡ p.last
  pub once : (0 < slot_width p.first p.last) × (slot_width p.first p.last ≤ 32)

-- Of a well-formed pattern: the lowest code is the least that it covers. It is absent exactly where the mask is 0, which is where no code is covered. It has
-- slot 0 where the pattern goes round; the trailing zeros of a mask that isn't 0 and the lowest slot give it, and the ones of any mask times the slot width
-- give the count. (That the count is how many codes it covers is its definition.)
pub record MeasuresPattern (p : Pattern) : Type 0 where
  pub lowest : (low : ℕ) → ((extent_of p).lowest ≡ Some low) ↔ ((covers p low ≡ true) × ((code : ℕ) → covers p code ≡ true → low ≤ code))
  pub absent : ((extent_of p).lowest ≡ None) ↔ (p.mask ≡ 0)
  pub empty : (p.mask ≡ 0) ↔ ((code : ℕ) → covers p code ≡ false)
  pub round_lowest : (low : ℕ) → (extent_of p).lowest ≡ Some low → p.last < p.first → slot_of low ≡ 0
  pub by_zeros : 0 < p.mask → (extent_of p).lowest ≡ Some (count_trailing_zeros 8 p.mask * 32 + lowest_slot p.first p.last)
  pub by_ones : (extent_of p).count ≡ ones p.mask * slot_width p.first p.last

-- 6. Words as sets of slots. `slots_under` and `slot_set` ensure `IsSlotSet`, the one of the slots under a width and the other of those that first and
-- last name. In words, a slot is a member where its bit is 1, and there are slots up to 31 only:
abbrev pub HasExactly : (word : ℕ) (Member : ℕ → Type 0) → Type 0
HasExactly word Member = (slot : ℕ) → (bit slot word ≡ 1) ↔ ((slot ≤ 31) × Member slot)

-- The word of a width has exactly the slots under it, and is 0, 1, 3, 7 and so on up to that of 32, which is the word of every width over 32.
pub record WordsOfSlots : Type 0 where
  pub members : (width word : ℕ) → IsSlotSet (λ slot. ltb slot width) word ↔ HasExactly word (λ slot. slot < width)
  pub power : (width word : ℕ) → IsSlotSet (λ slot. ltb slot width) word ↔ (word ≡ 2 ^ min width 32 - 1)

-- Any first and last have a set, round the ring too, and it has exactly the slots that these name.
pub record SetsOfSlots : Type 0 where
  pub exists : (first last : ℕ) → (word : ℕ) × IsSlotSet (named first last) word
  pub members : (first last word : ℕ) → IsSlotSet (named first last) word ↔ HasExactly word (Names first last)

-- The word of a set, whatever test its members pass: there is no other; its trailing zeros are the least member, and its ones are how many there are.
pub record MeasuresSlots (holds : ℕ → Bool) (word : ℕ) : Type 0 where
  pub only : (other : ℕ) → IsSlotSet holds other → other ≡ word
  pub by_zeros : count_trailing_zeros 32 word ≡ least 32 holds
  pub by_ones : ones word ≡ count_below 32 holds

-- So the set of a pattern's first and last slot tells what it covers: the codes of its kinds with the members of the set. Of a well-formed pattern, the
-- trailing zeros of the mask and of the set give the lowest code, if there is a kind, and the ones of the two give the count.
pub record ToldBySet (p : Pattern) (word : ℕ) : Type 0 where
  pub covered : (code : ℕ) → (covers p code ≡ true) ↔ ((bit (kind_of code) p.mask ≡ 1) × (bit (slot_of code) word ≡ 1))
  pub lowest : WellFormedPattern p → 0 < p.mask → (extent_of p).lowest ≡ Some (count_trailing_zeros 8 p.mask * 32 + count_trailing_zeros 32 word)
  pub count : WellFormedPattern p → (extent_of p).count ≡ ones p.mask * ones word

-- 7. A clause that says which outcome a result stands for settles the result: the number tells the fault.
pub record ResultsSettled : Type 1 where
  pub number_tells : (fault fault' : Fault') → number fault ≡ number fault' → fault ≡ fault'
  pub settled : {A : Type 0} (x y : Result A Refusal) → as_outcome x ≡ as_outcome y → x ≡ y

-- ---- all of these

-- The theorem `promises` has this type, so that each promise has its proof.
pub record Promises : Type 1 where
  pub accepts_encodings : AcceptsEncodings
  pub one_rule : OneRule
  pub answers_accepted : AnswersAccepted
  pub refuses_at_the_fault : RefusesAtTheFault
  pub has_one_fault : HasOneFault
  pub refuses_pattern : RefusesPattern
  pub numbers_nodes : (r : Rule) → NumbersNodes r
  pub numbers_patterns : (r : Rule) → NumbersPatterns r
  pub settled_by_first_bytes : SettledByFirstBytes
  pub not_by_fewer : NotByFewer
  pub binary_digits : BinaryDigits
  pub covers_means : CoversMeans
  pub goes_round : (p : Pattern) → p.first ≤ 31 → p.last ≤ 31 → GoesRound p
  pub measures_pattern : (p : Pattern) → WellFormedPattern p → MeasuresPattern p
  pub words_of_slots : WordsOfSlots
  pub sets_of_slots : SetsOfSlots
  pub measures_slots : (holds : ℕ → Bool) (word : ℕ) → IsSlotSet holds word → MeasuresSlots holds word
  pub told_by_set : (p : Pattern) (word : ℕ) → IsSlotSet (named p.first p.last) word → ToldBySet p word
  pub results_settled : ResultsSettled
