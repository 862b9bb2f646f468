-- The canonical form theorem, from what is proved of every document.
use Rattle.std.proofs.Common.{◌≡◌, List, ℕ, ap, sym, subst, ◌∙◌}
use Rattle.raw_tree.proofs.Common.{Tree, IsEnvelope, IsCanonical, IsCanonicalForm, IsSpelling, encoding, Reads, as_document}
use Rattle.raw_tree.proofs.Forms.{bytes_spelled_one_way, read_returns}
use Rattle.raw_tree.proofs.reader.OneWay.{bytes_one_way}

-- the spelling of the tree of a document is its canonical form
pub canonical_form : (b a : List ℕ) (t : Tree) → IsEnvelope b → Reads b t → IsSpelling t a → IsCanonicalForm b a
canonical_form b a t env read s =
    let back : IsEnvelope a × Reads a t × IsCanonical a = subst (λ (x : List ℕ). IsEnvelope x × Reads x t × IsCanonical x) s.1 (read_returns as_document b t env read s.0) in
    record {
      envelope = env;
      tree = t;
      read = read;
      spelled = s;
      same_tree = λ c u envelope reads size. (
        (λ e. (bytes_one_way as_document a back.0).one_tree t u back.1 (subst (λ (x : List ℕ). Reads x u) e (read_returns as_document c u envelope reads size).1)),
        (λ e. ap encoding e ∙ s.1),
      );
      unchanged = (
        (λ e. ((bytes_spelled_one_way as_document b env).unchanged t read).0 (s.0, s.1 ∙ e)),
        (λ c. sym s.1 ∙ (((bytes_spelled_one_way as_document b env).unchanged t read).1 c).1),
      );
      form_envelope = back.0;
      canonical = back.2;
      reads_back = back.1;
    }

-- canonical bytes are their own form
pub canonical_is_own_form : (b : List ℕ) → IsEnvelope b → IsCanonical b → IsCanonicalForm b b
canonical_is_own_form b env c =
    let law = bytes_spelled_one_way as_document b env in
    let read = law.canonical_reads c in
    canonical_form b b read.0 env read.1 ((law.unchanged read.0 read.1).1 c)

-- bytes have one canonical form
pub one_form : (b a other : List ℕ) → IsCanonicalForm b a → IsCanonicalForm b other → other ≡ a
one_form b a other f g =
    let same = (bytes_one_way as_document b f.envelope).one_tree f.tree g.tree f.read g.read in
    sym g.spelled.1 ∙ ap encoding same ∙ f.spelled.1
