-- `listing::draft::Draft::put` meets its contract, and past the line all is 0 still.
-- Assumes nothing.
use Rattle.std.proofs.Common.{ℕ, ◌≡◌, ◌≤◌, ◌+◌, ◌-◌, ◌∙◌, arith, length, take}
use Rattle.std.proofs.lemmas.List.{length-take-le}
use Rattle.std.proofs.lemmas.Slice.{take-put_mid, drop-put_mid}
use Rattle.listing.proofs.Drafts.{filled, same_size, still_0}
use Rattle.listing.proofs.draft.Draft.put.Goals as goal

pub returns : goal.returns
returns c =
    let d = c.self.inside in
    let long : length (take d.length d.bytes) ≡ d.length = length-take-le d.length d.bytes (omega arith) in
    record { is = rw (← c.self.view_is, c.copy_from_slice.ensures.after) (filled _ _ _ _ _ long (omega arith) c.min-n.ensures) }

pub invariant_of-self : goal.invariant_of-self
invariant_of-self c =
    let d = c.self.inside in
    let n = c.min-n.result in
    let k : ℕ = d.length + n - d.length in
    let ys = c.copy_from_slice.new.self in
    let part : length ys ≡ k = search (c.copy_from_slice.ensures.len, c.self.told) in
    let short : d.length + n ≤ 32 = omega (arith, c.min-n.ensures) in
    let fits : d.length ≤ length d.bytes = omega (arith, c.self.told) in
    let front = take-put_mid d.length k d.bytes ys (d.length + k) (omega (arith, part)) fits in
    let rest = drop-put_mid d.length k d.bytes ys (d.length + k) (omega arith) fits part in
    let past = drop-put_mid d.length k d.bytes ys (d.length + n) (omega arith) fits part in
    (short, same_size d.length k d.bytes ys _ c.self.told (omega (arith, short)) part front rest, past ∙ still_0 d.length n d.bytes c.self.invariant.2)
