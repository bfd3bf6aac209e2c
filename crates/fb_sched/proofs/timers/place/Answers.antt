use Rattle.std.proofs.Common.{◌≡◌, ◌+◌, ◌-◌, ℕ, List, [], ◌∷◌, ◌++◌, length, take, drop, ap, ◌∙◌, arith}
use Rattle.std.proofs.Math.Seq.{drop-append_seam, take-append_seam}
use Rattle.std.specs.VecDeque.{deque_len}
use Rattle.std.proofs.lemmas.List.{append_assoc, length-drop}
use Rattle.fb_sched.specs.declared.armed.Armed.{Armed}
use Rattle.fb_sched.proofs.timers.place.Goals as goal

-- turned back by what stood behind
turned : (front back : List Armed) (x : Armed) (n : ℕ) → n ≡ length back → drop n ((back ++ front) ++ x ∷ []) ++ take n ((back ++ front) ++ x ∷ []) ≡ front ++ x ∷ back
turned front back x n e =
    let whole = append_assoc back front (x ∷ []) in
    let behind : drop n ((back ++ front) ++ x ∷ []) ≡ front ++ x ∷ [] = ap (λ l. drop n l) whole ∙ ap (λ k. drop k (back ++ (front ++ x ∷ []))) e ∙ drop-append_seam back (front ++ x ∷ []) in
    let before : take n ((back ++ front) ++ x ∷ []) ≡ back = ap (λ l. take n l) whole ∙ ap (λ k. take k (back ++ (front ++ x ∷ []))) e ∙ take-append_seam back (front ++ x ∷ []) in
    ap (λ l. l ++ take n ((back ++ front) ++ x ∷ [])) behind ∙ ap (λ l. (front ++ x ∷ []) ++ l) before ∙ append_assoc front (x ∷ []) back

pub returns-clause-items : goal.returns-clause-items
returns-clause-items c =
    let l = c.args.armed.now.items in
    let n = deque_len c.push_back_reserved.new.self - (c.args.at + 1) in
    let mid : c.push_back_reserved.new.self.items ≡ (drop c.args.at l ++ take c.args.at l) ++ c.args.one ∷ [] = c.push_back_reserved.ensures.items ∙ ap (λ (k : List Armed). k ++ c.args.one ∷ []) c.rotate_left.ensures.items in
    let back : n ≡ length (drop c.args.at l) = omega (arith, c.rotate_left.ensures.len, c.push_back_reserved.ensures.len, c.args.armed.now.ok.0, length-drop c.args.at l, c.requires.within) in
    c.rotate_right.ensures.items ∙ ap (λ (m : List Armed). drop n m ++ take n m) mid ∙ turned (take c.args.at l) (drop c.args.at l) c.args.one n back
