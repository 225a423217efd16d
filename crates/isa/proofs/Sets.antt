-- What is read in a set is one of its instructions: the kind is the number of one of the set's rows, and none of Intel's is HALT or STOP.
-- And NEC's set has what Intel's has: it adds rows below Intel's, and a code's row is the first that fits.
-- Assumes nothing.
use Prim.Native.Nat.{ℕ, suc, ◌+◌, ◌<◌, ◌≤◌}
use mathlib.Core.Bool.{Bool, true, false, false≢true, true≢false}
use mathlib.Core.List.{List, [], ◌∷◌, ◌++◌}
use mathlib.Core.Path.{◌≡◌, refl, sym, ◌∙◌, subst}
use native.Mathlib.Omega.{arith}
use lib.Dec.{eqb}
use lib.ListN.{length, take, drop}
use Rattle.isa.specs.Choice.{pick}
use Rattle.isa.specs.Numbers.{given}
use Rattle.isa.specs.Reading.{Program, instruction_at, sized}
use Rattle.isa.specs.Sets.{Standby, halt, stop, Without, standby}
use Rattle.isa.specs.Sheet.{Row, rows, rows_of, row_of, fits, kind_from, kind_of, entry_of, operand_in, instruction_of}
use Rattle.isa.specs.declared.Instruction.{Instruction}
use Rattle.isa.specs.declared.Instruction.TheVariants.{Alu, Accumulator, Djnz, Branch, Jmp, Jmpp, Control, MovA, Mov, MovData, MovAPsw, MovPswA, Movp, Movp3, MovxRead, MovxWrite, Xch, Xchd, Cpl, Clr, Logic, In, Outl, Expander, Dec, Inc, Call, Ret, Retr, MovAT, MovTA, Nop, Halt, Stop}
use Rattle.isa.specs.declared.Set.{Set}
use Rattle.isa.specs.declared.Set.TheVariants.{Intel, Nec}
use Rattle.isa.proofs.Everywhere.{everywhere}
use Rattle.isa.proofs.Finding.{Found, alone, paired, found}

pick-below : (p : Bool) (x y n : ℕ) → x < n → y < n → pick p x y < n
unfolding pick
pick-below true x y n f g = f
pick-below false x y n f g = g

kind-below : (k : ℕ) (ws : List Row) (b : ℕ) → 1 ≤ k → kind_from k ws b < k + length ws
kind-below k [] b h = omega arith
kind-below k (w ∷ ws) b h =
    let later : kind_from (suc k) ws b < suc k + length ws = kind-below (suc k) ws b (omega arith) in
    pick-below (fits w.place w.code b) k (kind_from (suc k) ws b) (k + suc (length ws)) (omega arith) (omega (arith, later))

-- HALT and STOP, told apart by computation.
told : Instruction → Bool
told (Alu op s) = false
told (Accumulator op) = false
told (Djnz r d) = false
told (Branch c d) = false
told (Jmp a) = false
told Jmpp = false
told (Control op) = false
told (MovA s) = false
told (Mov c) = false
told (MovData c d) = false
told MovAPsw = false
told MovPswA = false
told Movp = false
told Movp3 = false
told (MovxRead r) = false
told (MovxWrite r) = false
told (Xch c) = false
told (Xchd r) = false
told (Cpl f) = false
told (Clr f) = false
told (Logic op l d) = false
told (In l) = false
told (Outl l) = false
told (Expander op p) = false
told (Dec r) = false
told (Inc c) = false
told (Call a) = false
told Ret = false
told Retr = false
told MovAT = false
told MovTA = false
told Nop = false
told Halt = true
told Stop = true

standby-told : (i : Instruction) → Standby i → told i ≡ true
unfolding told
standby-told i halt = refl
standby-told i stop = refl

intel-rows : (n d k : ℕ) → k < 97 → told ((row_of k).make n d) ≡ false
unfolding told
intel-rows n d k h = everywhere (λ k. told ((row_of k).make n d)) (λ k. false) 97 refl k h

made-within : (set : Set) (b d : ℕ) → Without set (instruction_of set b d) → ⊥
unfolding entry_of kind_of
made-within Intel b d (standby w) =
    false≢true
    (sym (intel-rows (operand_in (row_of (kind_of Intel b)).place b) d (kind_of Intel b) (kind-below 1 (rows_of Intel) b (omega arith)))
    ∙ standby-told _ w)
made-within Nec b d w = elim w [ ]

-- What is read in a set the set is not without.
pub read-within :
    (program : Program) (a : ℕ) (i : Instruction) (n : ℕ) → instruction_at program a ≡ given (sized i n) → Without program.set i → ⊥
read-within program a i n r w = go n (found program a i n r)
  where
    go : (n : ℕ) → Found program a i n → ⊥
    go n (alone h p q j) = made-within program.set _ 0 (subst (Without program.set) (sym j) w)
    go n (paired h p q l j) = made-within program.set _ _ (subst (Without program.set) (sym j) w)

-- ---- what both sets have
-- Rows below those of a list don't matter to a code that fits one of the list.
rows-below : (b : ℕ) (below ws : List Row) (k : ℕ) → (kind_from k ws b ≡ 0 → ⊥) → kind_from k (ws ++ below) b ≡ kind_from k ws b
unfolding pick
rows-below b below [] k some = absurd (some refl)
rows-below b below (w ∷ ws) k some = go (fits w.place w.code b) some (rows-below b below ws (suc k))
  where
    x : ℕ
    x = kind_from (suc k) ws b

    y : ℕ
    y = kind_from (suc k) (ws ++ below) b

    go : (p : Bool) → (pick p k x ≡ 0 → ⊥) → ((x ≡ 0 → ⊥) → y ≡ x) → pick p k y ≡ pick p k x
    go true h below = refl
    go false h below = below h

shared-kind : (set : Set) (b : ℕ) → (kind_of Intel b ≡ 0 → ⊥) → kind_of set b ≡ kind_of Intel b
unfolding kind_of
shared-kind Intel b some = refl
shared-kind Nec b some = rows-below b (drop 96 rows) (take 96 rows) 1 some

-- A code that Intel has, NEC has with the same entry.
pub shared : (set : Set) (b : ℕ) → eqb (entry_of Intel b).bytes 0 ≡ false → entry_of set b ≡ entry_of Intel b
unfolding entry_of
shared set b defined = rw (shared-kind set b (λ none. true≢false (rw none at defined)))
