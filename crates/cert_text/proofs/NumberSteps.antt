-- One number more of a list of words.
use Rattle.std.proofs.Common.{◌≡◌, ◌<◌, ◌-◌, ℕ, zero, suc, List, [], ◌∷◌, ◌++◌, take, Option, Some, None, option_map, refl, sym, ◌∙◌, ap, arith, append_assoc}
use Rattle.cert_text.specs.Numbers.{most_record, number_of, numbers_of}

behind_one : (items : List ℕ) (number : ℕ) (o : Option (List ℕ)) → option_map (λ ns. items ++ ns) (option_map (λ ns. number ∷ ns) o) ≡ option_map (λ ns. (items ++ number ∷ []) ++ ns) o
behind_one items number None = refl
behind_one items number (Some ns) = ap Some (sym (append_assoc items (number ∷ []) ns))

numbers_of-cons : (w : List ℕ) (ws : List (List ℕ)) (number : ℕ) → number_of most_record w ≡ Some number
    → numbers_of most_record (w ∷ ws) ≡ option_map (λ ns. number ∷ ns) (numbers_of most_record ws)
numbers_of-cons w ws number e = rw e refl

pub number-more : (items : List ℕ) (left number : ℕ) (w : List ℕ) (ws rest : List (List ℕ)) (whole : Option (List ℕ)) → 0 < left → ws ≡ w ∷ rest
    → number_of most_record w ≡ Some number → option_map (λ ns. items ++ ns) (numbers_of most_record (take left ws)) ≡ whole
    → option_map (λ ns. (items ++ number ∷ []) ++ ns) (numbers_of most_record (take (left - 1) rest)) ≡ whole
number-more items zero number w ws rest whole some is reads so_far = absurd (omega arith)
number-more items (suc k) number w ws rest whole some is reads so_far =
    let less : suc k - 1 ≡ k = omega arith in
    ap (λ n. option_map (λ ns. (items ++ number ∷ []) ++ ns) (numbers_of most_record (take n rest))) less
    ∙ sym (behind_one items number (numbers_of most_record (take k rest)))
    ∙ ap (option_map (λ ns. items ++ ns)) (sym (numbers_of-cons w (take k rest) number reads))
    ∙ ap (λ xs. option_map (λ ns. items ++ ns) (numbers_of most_record (take (suc k) xs))) (sym is) ∙ so_far
