pub mod RealDate
