-- `write_entry` meets its contract: the location, then twice four bytes. Assumes nothing.
use Prim.Native.Nat.{ℕ, ◌+◌, ◌*◌, ◌-◌, ◌≤◌}
use mathlib.Core.Path.{◌≡◌, sym, ◌∙◌, ap, ap₂}
use mathlib.Core.List.{List, ◌++◌, append_assoc}
use native.Mathlib.Omega.{arith}
use lib.ListN.{length, length-set, set, take}
use borrow.Rule.Slice.PartMut.{put_mid}
use Rattle.std.proofs.lemmas.List.{drop-drop}
use Rattle.std.proofs.lemmas.List.Edits.{sets, sets-eq}
use Rattle.std.proofs.Math.Seq.{length-sets}
use Rattle.regions.specs.Entries.{four_from, four-whole, entry-stored}
use Rattle.regions.proofs.entry.write_entry.Goals as goal

-- A part of a list that was written whole.
part-stored : (at n : ℕ) (l vs : List ℕ) → length vs ≡ n → at + n ≤ length l → put_mid at n l vs ≡ sets l at vs
part-stored at n l vs long room =
    ap (λ k. take at l ++ (vs ++ k)) (drop-drop n at l ∙ ap (λ k. lib.ListN.drop (at + k) l) (sym long))
    ∙ sym (append_assoc (take at l) vs (lib.ListN.drop (at + length vs) l))
    ∙ sym (sets-eq vs l at (omega (arith, long, room)))

-- Four bytes.
four-written : (at n : ℕ) (l vs four : List ℕ) → n ≡ 4 → vs ≡ four → length four ≡ 4 → at + 4 ≤ length l
    → put_mid at n l vs ≡ sets l at (four_from four 0)
four-written at n l vs four is copied long room =
    ap₂ (λ (k : ℕ) (x : List ℕ). put_mid at k l x) is copied
    ∙ part-stored at 4 l four long room
    ∙ ap (sets l at) (sym (four-whole four long))

pub returns : goal.returns
returns c =
    let args = c.args in
    let at : ℕ = 9 * args.j in
    let first : List ℕ = set args.entries.now at args.r.location in
    let long : length first ≡ length args.entries.now = length-set args.entries.now at args.r.location in
    let one = four-written (at + 1) (at + 5 - (at + 1)) first c.copy_from_slice.new.self args.r.whole (omega arith)
    c.copy_from_slice.ensures.after (omega arith) (omega (arith, long)) in
    let then : List ℕ = put_mid (at + 1) (at + 5 - (at + 1)) first c.copy_from_slice.new.self in
    let longer : length then ≡ length first = ap length one ∙ length-sets first (at + 1) (four_from args.r.whole 0) in
    entry-stored args.entries.now then _ args.j args.r one
    (four-written (at + 5) (at + 9 - (at + 5)) then c.copy_from_slice-2.new.self args.r.rank (omega arith)
    c.copy_from_slice-2.ensures.after (omega arith) (omega (arith, longer, long)))
