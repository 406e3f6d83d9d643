-- What was handed over since the texts were opened is what their transcripts have.
use Rattle.std.proofs.Common.{◌≡◌, ◌⊎◌, ◌++◌, ◌∙◌, ℕ, Bool, false, List, [], inl, inr, sym, ap, subst, length, Option, Result}
use Rattle.std.specs.Prelude.{IfSome}
use Rattle.collector.specs.Transcripts.{bytes_of, is_marked_text, opened_as}
use Rattle.collector.specs.Watching.{Hands, handed, inner_of}
use Rattle.collector.specs.declared.transcript.Opened.{Opened}
use Rattle.collector.specs.declared.transcript.Transcript.{Transcript}
use Rattle.collector.specs.declared.watched.Watched.{Watched}
use Rattle.follow.specs.Follows.{HasRead}
use Rattle.diagnostics.specs.declared.fault.Fault.{Fault}
use Rattle.commands.specs.Followed.{FollowEnds}
use Rattle.commands.specs.Readings.{EndsOnBothHanded, EndsOnHanded, FollowsOnHanded, HandsQuery, read_part}
use Rattle.commands.specs.Readings.{Known}
use Rattle.console.specs.Transcribed.{EndsOnText, EndsOnTexts, FollowsOnTexts, IsClosed, IsEnough, IsReadFrom, IsReadQuery}
use Rattle.console.specs.declared.transcripts.Transcripts.{Transcripts}
use Rattle.commands.proofs.FollowedText.{ends_wider}

-- a text that was opened under the name, then read, and then closed
module _ {T : Type 0} (o : Opened T) (new : Watched T) (kept : Option Transcript) (none : handed o.text ≡ []) (c : IsClosed kept (record o { text = new })) where
  same_bytes : (bytes : List ℕ) → Hands o.text new bytes → bytes ≡ bytes_of c.0
  same_bytes bytes h = sym (c.3 ∙ h ∙ ap (λ xs. xs ++ bytes) none)

  enough : (left : T → Option (List ℕ)) (bytes : List ℕ) → HandsQuery left o.text new bytes → IsEnough c.0
  enough left bytes h = elim h.1 [ inl e ↦ inl (c.4 ∙ e) | inr l ↦ inr (sym (ap length (same_bytes bytes h.0)) ∙ l) ]

module _ (queries : Known) (texts : Transcripts) (query_name : List ℕ) {Q : Type 0} (left : Q → Option (List ℕ)) (q : Opened Q) (q₁ : Watched Q) (named : opened_as q ≡ query_name) (plain : is_marked_text q ≡ false) (content : left (inner_of q.text) ≡ queries query_name) (none : handed q.text ≡ []) (c : IsClosed texts.query (record q { text = q₁ })) where
  is_read : (bytes : List ℕ) → HandsQuery left q.text q₁ bytes → IsReadQuery (queries query_name) c.0
  is_read bytes h = (
    enough q q₁ texts.query none c left bytes h,
    subst (λ k. IfSome k (λ t. bytes_of c.0 ≡ read_part t)) content (subst (λ bs. IfSome (left (inner_of q.text)) (λ t. bs ≡ read_part t)) (same_bytes q q₁ texts.query none c bytes h.0) h.2),
  )

  pub one_closed : (ends : List ℕ → Type 0) (result : Result (Unit {0}) Fault) → EndsOnHanded left q.text q₁ ends result → EndsOnText queries texts query_name ends result
  one_closed ends result h = record {
    query = c.0;
    opened = (c.1, c.2 ∙ named, c.5 ∙ plain);
    whole = elim h.read [ inl r ↦ inl (is_read h.query r) | inr r ↦ inr r.1 ];
    ends = subst ends (same_bytes q q₁ texts.query none c h.query (elim h.read [ inl r ↦ r.0 | inr r ↦ r.0 ])) h.ends;
  }

  module _ (input_name : List ℕ) {I : Type 0} (i : Opened I) (i₁ : Watched I) (other_named : opened_as i ≡ input_name) (marked : Bool) (other_marked : is_marked_text i ≡ marked) (other_none : handed i.text ≡ []) (d : IsClosed texts.input (record i { text = i₁ })) where
    pub both_closed : (ends : List ℕ → List ℕ → Type 0) (result : Result (Unit {0}) Fault) → EndsOnBothHanded left q.text q₁ i.text i₁ ends result → EndsOnTexts queries texts query_name input_name marked ends result
    both_closed ends result h =
        let query : h.query ≡ bytes_of c.0 = same_bytes q q₁ texts.query none c h.query (elim h.read [ inl r ↦ r.0.0 | inr r ↦ r.0 ]) in
        let input : h.input ≡ bytes_of d.0 = same_bytes i i₁ texts.input other_none d h.input (elim h.read [ inl r ↦ r.1.0 | inr r ↦ r.1 ]) in
        record {
          query = c.0;
          input = d.0;
          opened = (c.1, c.2 ∙ named, c.5 ∙ plain);
          other_opened = (d.1, d.2 ∙ other_named, d.5 ∙ other_marked);
          whole = elim h.read [ inl r ↦ inl (is_read h.query r.0, d.4 ∙ r.1.1) | inr r ↦ inr r.2 ];
          ends = subst (λ bs. ends (bytes_of c.0) bs) input (subst (λ bs. ends bs h.input) query h.ends);
        }

    pub followed_closed : (offset : ℕ) (remaining : I → Option (List ℕ)) (old new : Option (List ℕ)) (result : Result (Unit {0}) Fault) → FollowsOnHanded offset left remaining q.text q₁ i.text i₁ old new result → FollowsOnTexts offset queries texts query_name input_name marked old new result
    followed_closed offset remaining old new result h =
        let query : h.query ≡ bytes_of c.0 = same_bytes q q₁ texts.query none c h.query (elim h.read [ inl r ↦ r.0 | inr r ↦ r.0 ]) in
        record {
          query = c.0;
          input = d.0;
          opened = (c.1, c.2 ∙ named, c.5 ∙ plain);
          other_opened = (d.1, d.2 ∙ other_named, d.5 ∙ other_marked);
          whole = elim h.read [ inl r ↦ inl (is_read h.query r) | inr r ↦ inr r.1 ];
          ends = ends_wider offset (bytes_of c.0) (HasRead remaining i.text i₁) (IsReadFrom d.0) old new
              (λ bytes ended r. (same_bytes i i₁ texts.input other_none d bytes r.hands, λ e. d.4 ∙ r.said e)) result
              (subst (λ bs. FollowEnds offset bs (HasRead remaining i.text i₁) old new result) query h.ends);
        }
