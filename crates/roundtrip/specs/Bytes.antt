-- The bytes of a scene file. Assumes nothing.
use Rattle.std.specs.Prelude.{ℕ, ◌+◌, ◌*◌, List, [], ◌∷◌, ◌++◌, map, length}
use Rattle.records.specs.Format.{Format}
use Rattle.records.specs.LittleEndian.{u16_le, u32_le}
use Rattle.records.specs.Node.{node_record}
use Rattle.tree.specs.declared.node.Node.{Node}

-- the bytes of lists, one after another
abbrev pub concat : List (List ℕ) → List ℕ
concat [] = []
concat (x ∷ rest) = x ++ concat rest

-- the make, the counts of the tables and where each begins, for solid records of `size` bytes
abbrev pub header_bytes : (make size solids joints nodes : ℕ) → List ℕ
header_bytes make size solids joints nodes =
    u16_le make ++ u16_le solids ++ u16_le joints ++ u16_le nodes
    ++ u32_le 20 ++ u32_le (20 + size * solids) ++ u32_le (20 + size * solids + 4 * joints)

-- the header, then the records of the solids, of the joints and of the nodes
abbrev pub file_bytes : {S J : Type 0} (f : Format S J) (solids : List S) (joints : List J) (nodes : List Node) → List ℕ
file_bytes f solids joints nodes =
    header_bytes f.make f.size (length solids) (length joints) (length nodes)
    ++ (concat (map f.solid solids) ++ (concat (map f.joint joints) ++ concat (map node_record nodes)))
