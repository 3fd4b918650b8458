mod HotelLaws
