-- A scene file laid over an output, table by table. Assumes nothing.
use Rattle.std.proofs.Common.{◌≡◌, ℕ, ◌+◌, ◌*◌, ◌<◌, ◌≤◌, true, cond, leb, List, ◌++◌, map, length, take, drop, Ok, Err, sym, refl, ap, ◌∙◌, subst, ap₂, append_assoc, arith, length-append, drop-drop, take_at, drop_at}
use Rattle.records.specs.Format.{Format}
use Rattle.records.specs.Node.{node_record}
use Rattle.records.specs.Put.{put}
use Rattle.roundtrip.proofs.Pieces.{length_records}
use Rattle.roundtrip.specs.Bytes.{concat, header_bytes, file_bytes}
use Rattle.space.specs.declared.refusal.Refusal.TheVariants.{Output}
use Rattle.std.proofs.lemmas.Bool.{le-leb, lt-leb}
use Rattle.tree.specs.declared.node.Node.{Node}
use Rattle.writer.specs.Write.{written_length}
use Rattle.writer.proofs.Laying.{Laid}

-- one table behind the front
laid_next : (front bytes was out next : List ℕ) (at e : ℕ) → Laid front was out → length front ≡ at → e ≡ at + length bytes → next ≡ take at out ++ (bytes ++ drop e out) → Laid (front ++ bytes) was next
laid_next front bytes was out next at e so_far here end is =
    let rest = drop (length front) was in
    let front_is : take at out ≡ front = ap (take at) so_far ∙ take_at front rest at here in
    let rest_is : drop at out ≡ rest = ap (drop at) so_far ∙ drop_at front rest at here in
    let tail_is : drop e out ≡ drop (length (front ++ bytes)) was =
    ap (λ k. drop k out) end
    ∙ sym (drop-drop (length bytes) at out)
    ∙ ap (drop (length bytes)) rest_is
    ∙ drop-drop (length bytes) (length front) was
    ∙ ap (λ k. drop k was) (sym (length-append front bytes)) in
    is ∙ ap₂ (λ f t. f ++ (bytes ++ t)) front_is tail_is ∙ sym (append_assoc front bytes (drop (length (front ++ bytes)) was))

module _ {S J : Type 0} (f : Format S J) (joint_size : ℕ) (solid_sized : (x : S) → length (f.solid x) ≡ f.size) (joint_sized : (x : J) → length (f.joint x) ≡ joint_size) (four : joint_size ≡ 4) (solids : List S) (joints : List J) (nodes : List Node) (s : ℕ) (s_is : s ≡ f.size) where
  node_sized : (x : Node) → length (node_record x) ≡ 4
  node_sized x = refl

  A : List ℕ
  A = concat (map f.solid solids)

  B : List ℕ
  B = concat (map f.joint joints)

  C : List ℕ
  C = concat (map node_record nodes)

  H : List ℕ
  H = header_bytes f.make f.size (length solids) (length joints) (length nodes)

  A_length : length A ≡ s * length solids
  unfolding A
  A_length = length_records f.solid f.size solid_sized solids ∙ ap (λ k. k * length solids) (sym s_is)

  B_length : length B ≡ 4 * length joints
  unfolding B
  B_length = length_records f.joint joint_size joint_sized joints ∙ ap (λ k. k * length joints) four

  C_length : length C ≡ 4 * length nodes
  unfolding C
  C_length = length_records node_record 4 node_sized nodes

  H_length : length H ≡ 20
  unfolding H
  H_length = refl

  file_parts : file_bytes f solids joints nodes ≡ H ++ (A ++ (B ++ C))
  unfolding A B C H
  file_parts = refl

  pub file_length : length (file_bytes f solids joints nodes) ≡ 20 + s * length solids + 4 * length joints + 4 * length nodes
  file_length =
      ap length file_parts
      ∙ length-append H (A ++ (B ++ C))
      ∙ omega (arith, H_length, length-append A (B ++ C), length-append B C, A_length, B_length, C_length)

  module _ (was : List ℕ) where
    pub too_short : length was < 20 + s * length solids + 4 * length joints + 4 * length nodes → (Err Output ≡ written_length (file_bytes f solids joints nodes) was) × (was ≡ put (file_bytes f solids joints nodes) was)
    too_short short =
        let file = file_bytes f solids joints nodes in
        let less : length was < length file = subst (λ k. length was < k) (sym file_length) short in
        let no = lt-leb (length file) (length was) less in (
          ap (λ b. cond b (Ok (length file)) (Err Output)) (sym no),
          ap (λ b. cond b (file ++ drop (length file) was) was) (sym no),
        )

    module _ (fits : 20 + s * length solids + 4 * length joints + 4 * length nodes ≤ length was) where
      enough : leb (length (file_bytes f solids joints nodes)) (length was) ≡ true
      enough = le-leb _ (length was) (subst (λ k. k ≤ length was) (sym file_length) fits)

      pub answer : Ok (20 + s * length solids + 4 * length joints + 4 * length nodes) ≡ written_length (file_bytes f solids joints nodes) was
      answer =
          let file = file_bytes f solids joints nodes in
          ap Ok (sym file_length) ∙ ap (λ b. cond b (Ok (length file)) (Err Output)) (sym enough)

      laid_all : (out : List ℕ) → Laid (((H ++ A) ++ B) ++ C) was out → out ≡ put (file_bytes f solids joints nodes) was
      laid_all out laid =
          let file = file_bytes f solids joints nodes in
          let same : ((H ++ A) ++ B) ++ C ≡ file = append_assoc (H ++ A) B C ∙ append_assoc H A (B ++ C) ∙ sym file_parts in
          laid ∙ ap (λ f. f ++ drop (length f) was) same ∙ ap (λ b. cond b (file ++ drop (length file) was) was) (sym enough)

      pub laid_file : (head out₁ out₂ out₃ out₄ : List ℕ) → head ≡ header_bytes f.make f.size (length solids) (length joints) (length nodes) → out₁ ≡ head ++ drop 20 was → out₂ ≡ take 20 out₁ ++ (concat (map f.solid solids) ++ drop (20 + f.size * length solids) out₁) → out₃ ≡ take (20 + s * length solids) out₂ ++ (concat (map f.joint joints) ++ drop (20 + s * length solids + joint_size * length joints) out₂) → out₄ ≡ take (20 + s * length solids + 4 * length joints) out₃ ++ (concat (map node_record nodes) ++ drop (20 + s * length solids + 4 * length joints + 4 * length nodes) out₃) → out₄ ≡ put (file_bytes f solids joints nodes) was
      unfolding A B C H
      laid_file head out₁ out₂ out₃ out₄ head_is one two three last =
          let first : Laid H was out₁ = one ∙ ap (λ h. h ++ drop 20 was) head_is in
          let second : Laid (H ++ A) was out₂ = laid_next H A was out₁ out₂ 20 (20 + f.size * length solids) first H_length (omega (arith, A_length, ap (λ k. k * length solids) s_is)) two in
          let third : Laid ((H ++ A) ++ B) was out₃ = laid_next (H ++ A) B was out₂ out₃ (20 + s * length solids) (20 + s * length solids + joint_size * length joints) second (length-append H A ∙ omega (arith, H_length, A_length)) (omega (arith, B_length, ap (λ k. k * length joints) four)) three in
          let fourth : Laid (((H ++ A) ++ B) ++ C) was out₄ = laid_next ((H ++ A) ++ B) C was out₃ out₄ (20 + s * length solids + 4 * length joints) (20 + s * length solids + 4 * length joints + 4 * length nodes) third (length-append (H ++ A) B ∙ omega (arith, length-append H A, H_length, A_length, B_length)) (omega (arith, C_length)) last in
          laid_all out₄ fourth
