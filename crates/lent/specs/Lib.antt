-- What a step on a lent record promises.
pub mod Left
