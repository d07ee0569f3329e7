-- That a walk comes to an ending within so many places.
use Rattle.std.proofs.Common.{◌≡◌, ◌∙◌, ◌≤◌, ◌+◌, ◌*◌, ℕ, zero, suc, List, ◌∷◌, ◌++◌, length, ap, sym, subst, refl, arith, append_assoc, length-append}
use Rattle.std.proofs.Math.Nat.{mul-le-mul_right}
use Rattle.std.proofs.Math.Seq.{get_or-append_seam}
use Rattle.mit_files.specs.Files.{FileMap}
use Rattle.mit_ops.specs.Endings.{Ending}
use Rattle.mit_cfg.specs.Walk.{Place, at_ending, next_place, numbered_block, walk_from}
use Rattle.mit_cfg.specs.declared.block.Block.{Block}

-- a step before so many places is a step after them
shifted : (blocks : List Block) (files : FileMap) (place : Place) (count : ℕ)
    → walk_from blocks files (next_place blocks files place) count ≡ walk_from blocks files place (suc count)
unfolding walk_from
shifted blocks files place zero = refl
shifted blocks files place (suc count) = ap (λ p. next_place blocks files p) (shifted blocks files place count)

-- what is over stays over
pub stays_over : (blocks : List Block) (files : FileMap) (place : Place) (ending : Ending) (count more : ℕ)
    → walk_from blocks files place count ≡ at_ending ending → walk_from blocks files place (more + count) ≡ at_ending ending
unfolding walk_from
stays_over blocks files place ending count zero is = let e : 0 + count ≡ count = omega arith in ap (λ n. walk_from blocks files place n) e ∙ is
stays_over blocks files place ending count (suc more) is =
    let e : suc more + count ≡ suc (more + count) = omega arith in
    ap (λ n. walk_from blocks files place n) e
    ∙ ap (λ p. next_place blocks files p) (stays_over blocks files place ending count more is)

-- with so many decisions left, of whose places so many are gone
pub record Ends (blocks : List Block) (files : FileMap) (gone left : ℕ) (place : Place) (ending : Ending) : Type 0 where
  pub count : ℕ
  pub within : count + gone ≤ (left + 1) * length blocks
  pub comes : walk_from blocks files place count ≡ at_ending ending

pub ends_over : (blocks : List Block) (files : FileMap) (gone left : ℕ) (ending : Ending) → gone ≤ length blocks → Ends blocks files gone left (at_ending ending) ending
unfolding walk_from
ends_over blocks files gone left ending room = record {
  count = 0;
  within = omega (arith, room);
  comes = refl;
}

-- one place further
pub ends_next : (blocks : List Block) (files : FileMap) (gone left : ℕ) (place : Place) (ending : Ending)
    → Ends blocks files (suc gone) left (next_place blocks files place) ending → Ends blocks files gone left place ending
ends_next blocks files gone left place ending ends = record {
  count = suc ends.count;
  within = let w = ends.within in omega (arith, w);
  comes = sym (shifted blocks files place ends.count) ∙ ends.comes;
}

-- fewer places are gone, and more decisions are left
pub ends_sooner : (blocks : List Block) (files : FileMap) (gone gone' left left' : ℕ) (place : Place) (ending : Ending)
    → gone ≤ gone' → left' ≤ left → Ends blocks files gone' left' place ending → Ends blocks files gone left place ending
ends_sooner blocks files gone gone' left left' place ending fewer more ends = record {
  count = ends.count;
  within =
      let w = ends.within in
      let m : left' + 1 ≤ left + 1 = omega (arith, more) in
      let product = mul-le-mul_right (length blocks) m in
      omega (arith, w, product, fewer);
  comes = ends.comes;
}

-- a decision gives as many places as there are blocks
pub ends_decided : (blocks : List Block) (files : FileMap) (gone gone' left left' : ℕ) (place : Place) (ending : Ending)
    → gone ≤ length blocks + gone' → suc left' ≡ left → Ends blocks files gone' left' place ending → Ends blocks files gone left place ending
ends_decided blocks files gone gone' left left' place ending room one ends = record {
  count = ends.count;
  within =
      let w = ends.within in
      subst (λ (n : ℕ). ends.count + gone ≤ (n + 1) * length blocks) one (omega (arith, w, room));
  comes = ends.comes;
}

-- ---- blocks from a number on

pub record Holds (blocks : List Block) (at : ℕ) (some : List Block) : Type 0 where
  pub front : List Block
  pub back : List Block
  pub size : length front ≡ at
  pub is : blocks ≡ front ++ (some ++ back)

pub holds_front : (blocks : List Block) (at : ℕ) (one other : List Block) → Holds blocks at (one ++ other) → Holds blocks at one
holds_front blocks at one other holds = record {
  front = holds.front;
  back = other ++ holds.back;
  size = holds.size;
  is = holds.is ∙ ap (λ list. holds.front ++ list) (append_assoc one other holds.back);
}

pub holds_back : (blocks : List Block) (at later : ℕ) (one other : List Block) → at + length one ≡ later → Holds blocks at (one ++ other) → Holds blocks later other
holds_back blocks at later one other sum holds = record {
  front = holds.front ++ one;
  back = holds.back;
  size = let s = holds.size in length-append holds.front one ∙ omega (arith, s, sum);
  is = holds.is ∙ ap (λ list. holds.front ++ list) (append_assoc one other holds.back) ∙ sym (append_assoc holds.front one (other ++ holds.back));
}

pub holds_first : (blocks : List Block) (at : ℕ) (first : Block) (later : List Block) → Holds blocks at (first ∷ later) → numbered_block blocks at ≡ first
holds_first blocks at first later holds =
    ap (λ list. numbered_block list at) holds.is
    ∙ ap (λ n. numbered_block (holds.front ++ first ∷ (later ++ holds.back)) n) (sym holds.size)
    ∙ get_or-append_seam holds.front first (later ++ holds.back) _

pub holds_within : (blocks : List Block) (at : ℕ) (some : List Block) → Holds blocks at some → at + length some ≤ length blocks
holds_within blocks at some holds =
    let s = holds.size in
    let total : length blocks ≡ length holds.front + (length some + length holds.back) =
    ap length holds.is ∙ length-append holds.front (some ++ holds.back) ∙ ap (λ n. length holds.front + n) (length-append some holds.back) in
    omega (arith, s, total)
