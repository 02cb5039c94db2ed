pub mod Agreement
pub mod JoinLaws
pub mod LeadLaws
