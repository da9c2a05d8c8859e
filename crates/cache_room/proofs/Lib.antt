pub mod CountLaws
pub mod Examples
pub mod FiledLaws
pub mod FirstLaws
pub mod OtherLaws
pub mod PartsLaws
pub mod SingleLaws
pub mod TakenLaws
